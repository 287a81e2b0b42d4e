use Rattle.codec_octets.proofs.Numbers.{Sofar}
use Rattle.codec_octets.proofs.fewest_octets.Given as goal

abbrev pub invariant-loop-o : goal.invariant-loop-o
invariant-loop-o l = Sofar l.s l.i l.k l.v l.o-index
