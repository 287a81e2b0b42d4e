-- `explain_message::message::put_id` meets its contract. Assumes nothing.
use Rattle.explain_message.specs.Messages.{id_texts}
use Rattle.explain_words.specs.Letters.{ascii}
use Rattle.trace_io.proofs.Saying.{says_then}
use Rattle.explain_message.proofs.message.put_id.Goals as goal

pub returns : goal.returns
unfolding ascii id_texts
returns g c = says_then c.say.ensures c.say_number.ensures
