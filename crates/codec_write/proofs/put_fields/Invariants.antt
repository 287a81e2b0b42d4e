use Rattle.codec_write.proofs.FieldLaws.{Putting}
use Rattle.codec_table.specs.Columns.{fields_of}
use lib.ListN.{length}
use Rattle.codec_write.proofs.put_fields.Given as goal

abbrev pub invariant-loop-i : goal.invariant-loop-i
invariant-loop-i l = Putting l.initial.s l.from (fields_of l.number (length l.values)) l.values l.s l.at l.i
