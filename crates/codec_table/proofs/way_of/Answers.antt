use mathlib.Core.Path.{sym}
use lib.ListN.{get_or-eq_default}
use borrow.Author.Rules.{rules}
use Rattle.codec_table.proofs.ColumnLaws.{within_table}
use Rattle.codec_table.specs.Columns.{ways, way_at}
use Rattle.codec_table.proofs.way_of.Goals as goal

pub returns-then-number-gt42 : goal.returns-then-number-gt42
unfolding way_at ways
returns-then-number-gt42 c = sym (get_or-eq_default ways 0 c.if-number-gt42.true)

pub returns : goal.returns
unfolding way_at ways
returns c = within_table ways c.args.number 0 0 (search rules)
