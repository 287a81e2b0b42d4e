use mathlib.Core.Path.{◌∙◌}
use Rattle.codec_table.proofs.ColumnLaws.{form_at_lem}
use Rattle.codec_table.proofs.form_of.Goals as goal

pub returns : goal.returns
returns c = c.form_in.ensures ∙ form_at_lem _ _ c.entry_of.ensures
