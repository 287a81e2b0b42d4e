-- `explain_tokens::put_user` meets its contract. Assumes nothing.
use Rattle.trace_io.proofs.Saying.{says_then, says_as}
use Rattle.explain_message.specs.Messages.{id_texts}
use mathlib.Core.Path.{ap}
use Rattle.explain_tokens.proofs.put_user.Goals as goal

pub returns : goal.returns
returns g c = says_then c.say.ensures (says_as c.put_id.ensures (ap id_texts c.name.ensures))
