-- `explain_message::message::put_list` meets its contract. Assumes nothing.
use Rattle.explain_message.proofs.PhraseLaws.{list_none, list_some}
use Rattle.explain_words.specs.Letters.{ascii}
use Rattle.trace_io.proofs.Saying.{says_as}
use Rattle.explain_message.proofs.message.put_list.Goals as goal

pub returns-then-ids-eq0 : goal.returns-then-ids-eq0
unfolding ascii
returns-then-ids-eq0 g c = says_as c.say.ensures (list_none c.args.ids.now c.if-ids-eq0.true)

pub returns : goal.returns
returns g c = says_as c.put_ids.ensures (list_some c.args.ids.now c.if-ids-eq0.false)
