use Rattle.codec_read.proofs.ListLaws.{Owed}
use Rattle.codec_read.proofs.read_ids.Given as goal

abbrev pub invariant-loop-i : goal.invariant-loop-i
invariant-loop-i l = Owed l.s l.low l.from l.count l.ids l.at l.i
