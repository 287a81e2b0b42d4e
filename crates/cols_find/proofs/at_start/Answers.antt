use mathlib.Core.Bool.{false≢true}
use borrow.Author.Rules.{rules}
use borrow.Author.Tests.{eqb-true}
use Rattle.cols_find.proofs.at_start.Goals as goal

pub returns-then-ids-gt0 : goal.returns-then-ids-gt0
returns-then-ids-gt0 c e = (search rules, eqb-true _ _ e)

pub returns : goal.returns
returns c e = absurd (false≢true e)
