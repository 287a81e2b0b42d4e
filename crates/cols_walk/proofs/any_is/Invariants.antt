-- No cell passed is k.
use Prim.Native.Nat.{ℕ, ◌≤◌, ◌<◌}
use mathlib.Core.Path.{◌≡◌}
use mathlib.Core.Bool.{false}
use lib.ListN.{length, get_or}
use Rattle.cols_walk.proofs.any_is.Given as goal

abbrev pub invariant-loop-c : goal.invariant-loop-c
invariant-loop-c l = (l.c-index ≤ length l.cells) × (l.any ≡ false → (j : ℕ) → j < l.c-index → get_or l.cells j 0 ≡ l.k → ⊥)
