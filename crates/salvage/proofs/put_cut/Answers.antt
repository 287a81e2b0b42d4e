-- `salvage::put_cut` meets its contract: the two numbers of an entry, one behind the other. Assumes nothing.
use native.Mathlib.Omega.{arith}
use Rattle.salvage.proofs.Laying.{lays_not, lays_both, entry_length}
use Rattle.salvage.proofs.put_cut.Goals as goal

pub returns-then-list-k : goal.returns-then-list-k
returns-then-list-k c = let a = c.args in lays_not _ _ _ (omega (arith, entry_length a.start a.size))

pub returns : goal.returns
returns c = lays_both _ _ _ _ c.put_number.ensures c.put_number-2.ensures
