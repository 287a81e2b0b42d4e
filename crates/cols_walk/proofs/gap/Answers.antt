-- The zeros below the first that is not there.
use native.Mathlib.Omega.{arith}
use lib.Count.{trailing_le}
use Rattle.cols_spec.proofs.Gaps.{gap_of}
use Rattle.cols_walk.proofs.gap.Goals as goal

pub overflow_cast-result : goal.overflow_cast-result
overflow_cast-result c = omega (arith, trailing_le 64 c.minus.result)

pub returns : goal.returns
returns c = gap_of c.args.m c.minus.result c.minus.ensures
