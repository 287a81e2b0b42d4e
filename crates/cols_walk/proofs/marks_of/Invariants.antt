-- The places passed are marked.
use Prim.Native.Nat.{◌≤◌}
use mathlib.Core.Path.{◌≡◌}
use lib.ListN.{length, take}
use Rattle.cols_spec.specs.Sets.{ids_above}
use Rattle.cols_walk.proofs.marks_of.Given as goal

abbrev pub invariant-loop-x : goal.invariant-loop-x
invariant-loop-x l = (l.x-index ≤ length l.ids) × (l.m ≡ ids_above l.low (take l.x-index l.ids))
