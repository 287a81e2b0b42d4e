-- `explain_stop::before` meets its contract. Assumes nothing.
use Rattle.explain_stop.proofs.StopLaws.{items_none, items_some}
use Rattle.explain_stop.proofs.before.Goals as goal

pub returns-then-kind-eq0 : goal.returns-then-kind-eq0
returns-then-kind-eq0 c = items_none c.args.kind c.if-kind-eq0.true

pub returns : goal.returns
returns c = items_some c.args.kind c.if-kind-eq0.false
