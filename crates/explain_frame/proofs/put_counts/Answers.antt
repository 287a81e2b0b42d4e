-- `explain_frame::put_counts` meets its contract. Assumes nothing.
use Rattle.explain_frame.specs.Frames.{counts_texts}
use Rattle.explain_words.specs.Letters.{ascii}
use Rattle.trace_io.proofs.Saying.{says_then}
use Rattle.explain_frame.proofs.put_counts.Goals as goal

pub returns : goal.returns
unfolding ascii counts_texts
returns g c = says_then c.put_count.ensures (says_then c.put_count-2.ensures c.put_count-3.ensures)
