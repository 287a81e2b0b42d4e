use Rattle.codec_table.proofs.ColumnLaws.{covered_at}
use Rattle.codec_table.proofs.covered.Goals as goal

pub returns : goal.returns
returns c = covered_at _ _ c.way_of.ensures
