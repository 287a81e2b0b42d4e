-- The loop goes up: x does not stand before i.
use Prim.Native.Nat.{◌≤◌}
use mathlib.Core.Path.{◌≡◌}
use lib.ListN.{length, drop}
use Rattle.cols_spec.specs.Places.{first}
use Rattle.cols_find.proofs.first.Given as goal

abbrev pub invariant-loop-i : goal.invariant-loop-i
invariant-loop-i l = (l.i ≤ length l.ids) × (first 0 l.x l.ids ≡ first l.i l.x (drop l.i l.ids))
