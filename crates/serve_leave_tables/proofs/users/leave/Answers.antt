-- The loop goes from one place of the mask to the next: who is not in it stays.
use mathlib.Core.Path.{◌≡◌}
use mathlib.Core.Bool.{true}
use native.Mathlib.Omega.{arith}
use borrow.Author.Rules.{rules}
use Rattle.cols_spec.proofs.Nexts.{next_behind}
use Rattle.cols_spec.proofs.Sweeps.{sweeps_start, sweeps_turn, turn_free}
use Rattle.cols_spec.specs.Sets.{has}
use Rattle.cols_spec.specs.Swept.{Turns}
use Rattle.domain.specs.Tables.{stays_on}
use Rattle.serve_leave_tables.proofs.StoreLaws.{user_leaves, users_past, users_swept}
use Rattle.serve_leave_tables.proofs.users.leave.Goals as goal
use Rattle.serve_leave_tables.proofs.users.leave.Goals.{then-users-j-ne0, else-users-j-ne0}

pub loop-j-init : goal.loop-j-init
loop-j-init c = let x = c.next_in-j.ensures in
    (λ h. (x.here h).1, users_past (sweeps_start 0 (stays_on _) 64 _ _ (search rules) (search rules)) x)

pub loop-j-smaller : goal.loop-j-smaller
loop-j-smaller c = omega (arith, next_behind c.next_in-j-in-loop-j.ensures (omega arith))

pub loop-j-preserved : goal.loop-j-preserved
loop-j-preserved c =
    let b = c.loop-j in
    let x = c.next_in-j-in-loop-j.ensures in
    let u = c.if-users-j-ne0.users in
    let leaves : has c.args.gone b.j ≡ true = b.invariant.0 (search rules) in
    let turn : Turns 0 (stays_on c.args.gone) b.j b.users.ids b.users.links u.ids u.links = elim c.if-users-j-ne0.branch [
      | then-users-j-ne0 w ↦ rw w.users-is (user_leaves _ _ _ _ leaves w.if-users-j-ne0.true)
      | else-users-j-ne0 w ↦ rw w.users-is (turn_free 0 (stays_on _) _ _ _ w.if-users-j-ne0.false)
    ] in
    (λ h. (x.here h).1, users_past (sweeps_turn 0 (stays_on _) b.invariant.1 (search rules) turn) x)

pub returns-clause-left : goal.returns-clause-left
returns-clause-left c = users_swept _ _ _ _ _ _ c.loop-j.invariant.1 (search rules)
