-- The loop adds up what each place brings.
use Prim.Native.Nat.{◌≤◌}
use Rattle.cols_find.proofs.Summed.{Summed}
use Rattle.cols_find.proofs.alone.Given as goal

abbrev pub invariant-loop-k : goal.invariant-loop-k
invariant-loop-k l = (l.k ≤ 64) × Summed l.ids l.from l.x l.k l.sum
