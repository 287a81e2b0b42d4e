-- `explain_frame::put_count` meets its contract. Assumes nothing.
use Rattle.trace_io.proofs.Saying.{says_then}
use Rattle.explain_frame.proofs.put_count.Goals as goal

pub returns : goal.returns
returns g c = says_then c.say.ensures c.say_number.ensures
