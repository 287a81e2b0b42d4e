-- The loop goes up: no cell before i is k.
use Prim.Native.Nat.{◌≤◌}
use mathlib.Core.Path.{◌≡◌}
use lib.ListN.{length, drop}
use Rattle.cols_spec.specs.Places.{first}
use Rattle.cols_walk.proofs.cell_from.Given as goal

abbrev pub invariant-loop-i : goal.invariant-loop-i
invariant-loop-i l = (l.i ≤ length l.cells) × (first l.from l.k (drop l.from l.cells) ≡ first l.i l.k (drop l.i l.cells))
