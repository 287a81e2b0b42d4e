-- The loop goes from one connection of the mask to the next: those between tell nothing.
use Prim.Native.Nat.{◌-◌}
use Rattle.out_records.proofs.Telling.{Told}
use Rattle.out_records.proofs.tell_all.Given as goal

abbrev pub invariant-loop-q : goal.invariant-loop-q
invariant-loop-q l = Told l.mask l.m l.initial.out l.from l.out l.at l.q

abbrev pub decreases-loop-q : goal.decreases-loop-q
decreases-loop-q l = 16 - l.q
