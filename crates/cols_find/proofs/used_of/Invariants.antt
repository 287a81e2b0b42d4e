-- The places passed are counted.
use Prim.Native.Nat.{◌≤◌}
use mathlib.Core.Path.{◌≡◌}
use lib.ListN.{length, take}
use Rattle.cols_spec.specs.Places.{used}
use Rattle.cols_find.proofs.used_of.Given as goal

abbrev pub invariant-loop-x : goal.invariant-loop-x
invariant-loop-x l = (l.x-index ≤ length l.ids) × (l.k ≤ l.x-index) × (l.k ≡ used (take l.x-index l.ids))
