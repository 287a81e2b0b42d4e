-- `salvage::pass` meets its contract. The loop's invariant: laying what is left from here on is laying all of it from the start. Assumes nothing.
use Prim.Native.Nat.{◌-◌}
use lib.ListN.{length}
use Rattle.salvage.proofs.StepLaws.{Sofar}
use Rattle.salvage.proofs.pass.Given as goal

abbrev pub invariant-loop-p : goal.invariant-loop-p
invariant-loop-p l = Sofar l.trace l.initial.out l.initial.list l.out l.list l.p

abbrev pub decreases-loop-p : goal.decreases-loop-p
decreases-loop-p l = length l.trace - l.p.at
