use Rattle.codec_write.proofs.LayLaws.{Laying}
use Rattle.codec_write.proofs.put_octets.Given as goal

abbrev pub invariant-loop-j : goal.invariant-loop-j
invariant-loop-j l = Laying l.initial.s l.i l.k l.octets l.s l.j l.at
