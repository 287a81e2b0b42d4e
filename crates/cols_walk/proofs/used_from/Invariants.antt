-- The loop goes up: no place before i is in use.
use Prim.Native.Nat.{◌≤◌}
use mathlib.Core.Path.{◌≡◌}
use lib.ListN.{length, drop}
use Rattle.cols_spec.specs.Places.{busy}
use Rattle.cols_walk.proofs.used_from.Given as goal

abbrev pub invariant-loop-i : goal.invariant-loop-i
invariant-loop-i l = (l.i ≤ length l.ids) × (busy l.from (drop l.from l.ids) ≡ busy l.i (drop l.i l.ids))
