use mathlib.Core.Path.{◌∙◌}
use Rattle.codec_table.proofs.ColumnLaws.{kind_at_lem}
use Rattle.codec_table.proofs.kind_of.Goals as goal

pub returns : goal.returns
returns c = c.kind_in.ensures ∙ kind_at_lem _ _ c.entry_of.ensures _
