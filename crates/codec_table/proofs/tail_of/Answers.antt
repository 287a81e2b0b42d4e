use mathlib.Core.Path.{◌∙◌}
use Rattle.codec_table.proofs.ColumnLaws.{tail_at_lem}
use Rattle.codec_table.proofs.tail_of.Goals as goal

pub returns : goal.returns
returns c = c.tail_in.ensures ∙ tail_at_lem _ _ c.entry_of.ensures
