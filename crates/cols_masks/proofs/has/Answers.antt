-- The digit read is `has`; from 64 on there is none.
use mathlib.Core.Path.{sym, refl}
use borrow.Author.Rules.{rules}
use Rattle.cols_spec.specs.Sets.{has}
use Rattle.cols_spec.proofs.Digits.{has_high}
use Rattle.cols_masks.proofs.has.Goals as goal

pub returns-then-k-lt64 : goal.returns-then-k-lt64
unfolding has
returns-then-k-lt64 c = refl

pub returns : goal.returns
returns c = sym (has_high 64 _ _ (search rules) (search rules))
