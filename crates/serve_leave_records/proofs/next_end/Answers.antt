-- The marks bring the least id, where there is no other.
use Rattle.std.specs.Prelude.{None, Some}
use Prim.Native.Nat.{◌-◌, ◌+◌}
use mathlib.Core.Path.{refl, sym, ◌∙◌}
use native.Mathlib.Omega.{arith}
use Rattle.serve_leave_records.specs.Endings.{NextMark}
use Rattle.serve_leave_records.proofs.Least.{least_marked, least_none, answers_some}
use Rattle.serve_leave_records.proofs.next_end.Goals as goal

pub returns-in_err-q : goal.returns-in_err-q
returns-in_err-q c = let a = c.args in
    λ xs m. let p : NextMark xs (a.low - 1000) None = rw (c.in_err-q.was, c.saturating_sub.ensures) at (c.next_mark.ensures.least xs m.low_are m.high_are) in
    rw (c.from_residual.ensures, c.if-e.false, ← least_none a.low xs None (sym m.others ∙ c.if-e.false) p refl) refl

pub returns : goal.returns
returns c = let a = c.args in
    λ xs m. let p : NextMark xs (a.low - 1000) (Some c.in_ok-q.q) = rw (c.in_ok-q.was, c.saturating_sub.ensures) at (c.next_mark.ensures.least xs m.low_are m.high_are) in
    rw (c.if-e.false, ← least_marked a.low xs (Some c.in_ok-q.q) (sym m.others ∙ c.if-e.false) p c.in_ok-q.q refl) (answers_some (1001 + c.in_ok-q.q) (λ z. omega arith))
