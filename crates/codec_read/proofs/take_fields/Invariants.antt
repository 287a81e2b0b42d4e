use Rattle.codec_table.specs.Columns.{fields_of}
use Rattle.codec_read.proofs.Loop.{Sofar}
use Rattle.codec_read.proofs.take_fields.Given as goal

abbrev pub invariant-loop-i : goal.invariant-loop-i
invariant-loop-i l = Sofar l.s l.from (fields_of l.number l.count) l.values l.at l.i
