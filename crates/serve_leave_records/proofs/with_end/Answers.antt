-- One id more in each mask.
use mathlib.Core.Path.{refl, ◌∙◌}
use borrow.Author.Rules.{rules}
use Rattle.serve_leave_records.proofs.Marking.{marks_more}
use Rattle.serve_leave_records.proofs.with_end.Goals as goal

pub returns : goal.returns
returns c = λ xs h. marks_more c.args.c h (c.union.ensures ∙ rw (c.mark.ensures (search rules)) refl)
    (c.union-2.ensures ∙ rw (c.mark-2.ensures (search rules)) refl) refl
