use mathlib.Core.Path.{◌∙◌}
use Rattle.codec_table.proofs.ColumnLaws.{served_at}
use Rattle.codec_table.proofs.served.Goals as goal

pub returns : goal.returns
returns c = c.is_served.ensures ∙ served_at _ _ c.way_of.ensures
