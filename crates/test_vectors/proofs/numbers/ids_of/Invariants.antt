use Rattle.std.proofs.Common.{◌≡◌, length}
use Rattle.test_vectors.proofs.numbers.ids_of.Given as goal

abbrev pub invariant-loop-i : goal.invariant-loop-i
invariant-loop-i l = length l.ids ≡ 128
