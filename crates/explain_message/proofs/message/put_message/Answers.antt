-- `explain_message::message::put_message` meets its contract: the texts are those of what is decoded. Assumes nothing.
use Rattle.explain_message.proofs.PhraseLaws.{message_unread, message_read}
use Rattle.trace_io.proofs.Saying.{says_as}
use Rattle.explain_message.proofs.message.put_message.Goals as goal

pub returns-in-Ok : goal.returns-in-Ok
returns-in-Ok g c = says_as c.put_read.ensures (message_read c.args.octets.now _ _ c.in-Ok.ensures)

pub returns-in-Err : goal.returns-in-Err
returns-in-Err g c = says_as c.put_unread.ensures (message_unread c.args.octets.now _ _ c.in-Err.ensures)
