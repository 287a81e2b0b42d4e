use mathlib.Core.Path.{sym, ◌∙◌}
use Rattle.serve_leave_records.proofs.Parts.{returned_some, returned_both, returned_none, returned_other}
use Rattle.serve_leave_records.proofs.put_returned.Goals as goal
use Rattle.serve_leave_records.proofs.put_returned.Goals.{else-has-via-then-has+else-not-has, else-has-via-else-has}

pub returns-then-not-has : goal.returns-then-not-has
returns-then-not-has c = rw c.in-Giving.is (returned_some _ _ _ _ _ (sym c.has.ensures ∙ c.if-has.true) (sym c.has-then-has.ensures ∙ c.if-not-has.true) c.put_refusal.ensures)

pub returns-else-has : goal.returns-else-has
returns-else-has c = rw c.in-Giving.is (elim c.else-has.branch [
  | else-has-via-then-has+else-not-has w ↦ returned_both _ _ _ _ _ _ _ (sym c.has.ensures ∙ w.if-has.true) (sym w.has-then-has.ensures ∙ w.if-not-has.false)
  | else-has-via-else-has w ↦ returned_none _ _ _ _ _ _ _ (sym c.has.ensures ∙ w.if-has.false)
])

pub returns-in_default : goal.returns-in_default
returns-in_default c = returned_other _ _ _ c.args.h c.in_default.not-Giving _ _
