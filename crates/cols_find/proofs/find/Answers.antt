-- 0 is no id; any other is sought.
use mathlib.Core.Path.{sym, ◌∙◌}
use borrow.Author.Tests.{eq-eqb, ne_eqb}
use Rattle.cols_spec.specs.Places.{find, number}
use Rattle.cols_find.proofs.find.Goals as goal

pub returns-then-x-eq0 : goal.returns-then-x-eq0
unfolding find number
returns-then-x-eq0 c = rw (eq-eqb _ 0 c.if-x-eq0.true)

pub returns : goal.returns
unfolding find
returns c = c.first.ensures ∙ sym (rw (ne_eqb _ 0 c.if-x-eq0.false))
