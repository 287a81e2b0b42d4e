-- `explain_frame::put_bad` meets its contract. Assumes nothing.
use Rattle.explain_frame.specs.Frames.{octets_line, bad_texts}
use Rattle.explain_words.specs.Letters.{ascii}
use Rattle.trace_io.proofs.Saying.{says_then, says_as}
use lib.Seq.{length-take-le}
use mathlib.Core.Path.{sym, ap}
use Rattle.explain_frame.proofs.put_bad.Goals as goal

pub slice_bounds-put_octets_line-end : goal.slice_bounds-put_octets_line-end
slice_bounds-put_octets_line-end g c = sym (length-take-le c.bad_size-size.result c.args.s.now c.bad_size-size.ensures.0)

pub returns : goal.returns
unfolding ascii bad_texts
returns g c = says_then c.say.ensures (says_as c.put_octets_line.ensures (ap octets_line c.bad_size-size.ensures.1))
