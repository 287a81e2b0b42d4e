-- `explain_message::message::put_tail` meets its contract, by what follows the fields. Assumes nothing.
use Rattle.explain_message.proofs.PhraseLaws.{tail_none, tail_some}
use Rattle.explain_words.specs.Letters.{ascii}
use Rattle.trace_io.proofs.Saying.{says_none, says_then, says_as}
use Rattle.explain_message.proofs.message.put_tail.Goals as goal

pub returns-then-kind-eq0 : goal.returns-then-kind-eq0
returns-then-kind-eq0 g c = let a = c.args in says_as says_none (tail_none a.kind a.items a.ids.now a.octets.now c.if-kind-eq0.true)

pub returns : goal.returns
unfolding ascii
returns g c =
    let a = c.args in
    says_as (says_then c.say.ensures (says_then c.say_named.ensures c.put_items.ensures))
    (tail_some a.kind a.items a.ids.now a.octets.now c.if-kind-eq0.false)
