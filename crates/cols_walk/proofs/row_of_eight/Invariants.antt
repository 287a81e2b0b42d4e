-- The places passed are in a row, where all is still true.
use mathlib.Core.Path.{◌≡◌}
use mathlib.Core.Bool.{true}
use Rattle.cols_spec.specs.Places.{InRow}
use Rattle.cols_walk.proofs.row_of_eight.Given as goal

abbrev pub invariant-loop-k : goal.invariant-loop-k
invariant-loop-k l = l.all ≡ true → InRow l.ids l.i l.k l.x l.step
