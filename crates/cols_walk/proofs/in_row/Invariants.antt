-- The loop goes up, eight places at a time: those before i are in a row.
use Prim.Native.Nat.{◌≤◌, ◌-◌}
use lib.ListN.{length}
use Rattle.cols_spec.specs.Places.{InRow}
use Rattle.cols_walk.proofs.in_row.Given as goal

abbrev pub invariant-loop-i : goal.invariant-loop-i
invariant-loop-i l = (l.i ≤ l.n) × (l.n ≤ 128) × (l.n ≤ length l.ids) × InRow l.ids 0 l.i 1001 1

abbrev pub decreases-loop-i : goal.decreases-loop-i
decreases-loop-i l = l.n - l.i
