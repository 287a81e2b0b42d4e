-- `explain_tokens::put_holding` meets its contract, state by state. Assumes nothing.
use Rattle.explain_tokens.proofs.HolderLaws.{holding_is}
use Rattle.explain_tokens.specs.Holders.{over, holding_texts}
use Rattle.explain_message.specs.Messages.{id_texts}
use Rattle.explain_words.specs.Letters.{ascii}
use Rattle.trace_io.proofs.Saying.{says_then, says_as}
use Rattle.domain.specs.declared.token.Holding.TheVariants.{Free}
use Rattle.cols_spec.specs.Places.{in_order}
use mathlib.Core.Path.{ap}
use borrow.Author.Rules.{rules}
use Rattle.explain_tokens.proofs.put_holding.Goals as goal

pub returns-in-Free : goal.returns-in-Free
unfolding ascii holding_texts
returns-in-Free g c = says_as c.say.ensures (holding_is c.args.users.now.ids c.args.h Free (search rules))

pub returns-in-Grabbed : goal.returns-in-Grabbed
unfolding ascii holding_texts
returns-in-Grabbed g c = says_as c.put_user.ensures (holding_is c.args.users.now.ids c.args.h _ c.in-Grabbed.is)

pub returns-in-Inhibited : goal.returns-in-Inhibited
unfolding ascii holding_texts
returns-in-Inhibited g c = says_as (says_then c.say-in-Inhibited.ensures (says_as c.put_rising.ensures (ap (λ l. over id_texts (in_order l)) c.members.ensures))) (holding_is c.args.users.now.ids c.args.h _ c.in-Inhibited.is)

pub returns-in-Giving : goal.returns-in-Giving
unfolding ascii holding_texts
returns-in-Giving g c = says_as (says_then c.put_user-in-Giving.ensures c.put_user-in-Giving-2.ensures) (holding_is c.args.users.now.ids c.args.h _ c.in-Giving.is)

pub returns-in-Given : goal.returns-in-Given
unfolding ascii holding_texts
returns-in-Given g c = says_as c.put_user-in-Given.ensures (holding_is c.args.users.now.ids c.args.h _ c.in-Given.is)
