-- 0 is free, any other id is in use.
use Rattle.cols_spec.proofs.Turns.{used_none, used_one}
use Rattle.cols_find.proofs.in_use.Goals as goal

pub returns-then-x-eq0 : goal.returns-then-x-eq0
returns-then-x-eq0 c = used_none _ c.if-x-eq0.true

pub returns-else-x-eq0 : goal.returns-else-x-eq0
returns-else-x-eq0 c = used_one _ c.if-x-eq0.false
