-- `explain_frame::put_octets_line` meets its contract. Assumes nothing.
use Rattle.explain_frame.specs.Frames.{octets_line}
use Rattle.explain_words.specs.Letters.{ascii}
use Rattle.trace_io.proofs.Saying.{says_then}
use Rattle.explain_frame.proofs.put_octets_line.Goals as goal

pub returns : goal.returns
unfolding ascii octets_line
returns g c = says_then c.say.ensures (says_then c.put_octets.ensures c.say-2.ensures)
