use Rattle.codec_size.proofs.FieldEnds.{Ending}
use Rattle.codec_table.specs.Columns.{fields_of}
use lib.ListN.{length}
use Rattle.codec_size.proofs.fields_end.Given as goal

abbrev pub invariant-loop-i : goal.invariant-loop-i
invariant-loop-i l = Ending (fields_of l.number (length l.values)) l.values l.from l.at l.i
