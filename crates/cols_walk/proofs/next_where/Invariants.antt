-- The same over the ids that pass, at their own places.
use Prim.Native.Nat.{ℕ}
use mathlib.Core.Path.{◌≡◌}
use lib.Dec.{eqb}
use lib.ListN.{length, get_or}
use Rattle.cols_spec.specs.Places.{picked}
use Rattle.cols_spec.proofs.Turns.{Seeking}
use Rattle.cols_walk.proofs.next_where.Given as goal

abbrev pub invariant-loop-i : goal.invariant-loop-i
invariant-loop-i l = (length l.ids ≡ 64) × Seeking l.low (picked (λ (j : ℕ). eqb (get_or l.cells j 0) l.k) 0 l.ids) l.best l.i
