use mathlib.Core.Path.{◌∙◌}
use native.Mathlib.Omega.{arith}
use Rattle.codec_table.proofs.ColumnLaws.{count_at_lem, count_few}
use Rattle.codec_table.proofs.count_of.Goals as goal

pub returns : goal.returns
returns c =
    let e = c.count_in.ensures ∙ count_at_lem c.args.number _ c.entry_of.ensures in
    (e, omega (arith, e, count_few c.args.number))
