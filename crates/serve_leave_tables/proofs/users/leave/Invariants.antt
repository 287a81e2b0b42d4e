-- The loop goes from one place of the mask to the next: who is not in it stays.
use mathlib.Core.Bool.{true}
use mathlib.Core.Path.{◌≡◌}
use Prim.Native.Nat.{◌-◌, ◌<◌}
use Rattle.cols_spec.specs.Sets.{has}
use Rattle.cols_spec.proofs.Sweeps.{Sweeps}
use Rattle.domain.specs.Tables.{stays_on}
use Rattle.serve_leave_tables.proofs.users.leave.Given as goal

abbrev pub invariant-loop-j : goal.invariant-loop-j
invariant-loop-j l = (l.j < 64 → has l.gone l.j ≡ true) × Sweeps 0 (stays_on l.gone) 64 l.initial.users.ids l.initial.users.links l.j l.users.ids l.users.links

abbrev pub decreases-loop-j : goal.decreases-loop-j
decreases-loop-j l = 64 - l.j
