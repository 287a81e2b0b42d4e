use mathlib.Core.Path.{◌∙◌}
use Rattle.codec_table.proofs.ColumnLaws.{up_at}
use Rattle.codec_table.proofs.may_go_up.Goals as goal

pub returns : goal.returns
returns c = c.goes_up.ensures ∙ up_at _ _ c.way_of.ensures
