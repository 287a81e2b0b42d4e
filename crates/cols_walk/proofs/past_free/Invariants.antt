-- The loop goes up, eight places at a time: none before i is in use.
use Prim.Native.Nat.{◌≤◌, ◌-◌}
use mathlib.Core.Path.{◌≡◌}
use lib.ListN.{length, drop}
use Rattle.cols_spec.specs.Places.{busy}
use Rattle.cols_walk.proofs.past_free.Given as goal

abbrev pub invariant-loop-i : goal.invariant-loop-i
invariant-loop-i l = (l.i ≤ length l.ids) × (busy l.from (drop l.from l.ids) ≡ busy l.i (drop l.i l.ids))

abbrev pub decreases-loop-i : goal.decreases-loop-i
decreases-loop-i l = length l.ids - l.i
