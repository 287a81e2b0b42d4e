-- The mask of one alone is a shift.
use borrow.Author.Rules.{rules}
use Rattle.cols_spec.proofs.Digits.{shl_only}
use Rattle.cols_masks.proofs.U16Mask.only.Goals as goal

pub returns-then-in_width : goal.returns-then-in_width
returns-then-in_width c = shl_only 16 _ (search rules)
