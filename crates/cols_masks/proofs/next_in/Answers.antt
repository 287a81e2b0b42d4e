-- The mask is shifted, and the zeros below its lowest number are counted.
use native.Mathlib.Omega.{arith}
use borrow.Author.Rules.{rules}
use Rattle.cols_spec.proofs.Nexts.{next_high, next_none, next_small, next_found}
use Rattle.cols_masks.proofs.next_in.Goals as goal

pub returns-then-from-ge64 : goal.returns-then-from-ge64
returns-then-from-ge64 c = next_high _ _ (search rules)

pub returns-then-rest-eq0 : goal.returns-then-rest-eq0
returns-then-rest-eq0 c = next_none _ _ c.if-rest-eq0.true

pub overflow_cast-result : goal.overflow_cast-result
overflow_cast-result c = omega (arith, next_small _ _ (search rules) c.if-rest-eq0.false)

pub overflow_add-result : goal.overflow_add-result
overflow_add-result c = omega (arith, next_small _ _ (search rules) c.if-rest-eq0.false)

pub returns : goal.returns
returns c = next_found _ _ (search rules) c.if-rest-eq0.false
