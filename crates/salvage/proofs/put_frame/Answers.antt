-- `salvage::put_frame` meets its contract. Assumes nothing.
use native.Mathlib.Omega.{arith}
use Rattle.salvage.proofs.Laying.{lays_not}
use Rattle.salvage.proofs.put_frame.Goals as goal

pub returns-then-out-at : goal.returns-then-out-at
returns-then-out-at c = lays_not _ _ _ (omega arith)

pub returns-then-out-at-2 : goal.returns-then-out-at-2
returns-then-out-at-2 c = lays_not _ _ _ (omega arith)
