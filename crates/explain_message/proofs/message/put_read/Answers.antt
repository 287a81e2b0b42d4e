-- `explain_message::message::put_read` meets its contract. Assumes nothing.
use Rattle.explain_message.specs.Messages.{read_texts}
use Rattle.trace_io.proofs.Saying.{says_then}
use Rattle.explain_message.proofs.message.put_read.Goals as goal

pub returns : goal.returns
unfolding read_texts
returns g c = rw (← c.min-have.ensures, ← c.tail_of-kind.ensures) (says_then c.say_named.ensures (says_then c.put_fields.ensures c.put_tail.ensures))
