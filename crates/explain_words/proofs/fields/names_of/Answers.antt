-- `explain_words::fields::names_of` meets its contract. Assumes nothing.
use Rattle.explain_words.specs.FieldNames.{named, names_at}
use Rattle.codec_table.proofs.ColumnLaws.{within_table}
use lib.ListN.{get_or-eq_default}
use mathlib.Core.Path.{sym}
use borrow.Author.Rules.{rules}
use Rattle.explain_words.proofs.fields.names_of.Goals as goal

pub returns-then-number-gt42 : goal.returns-then-number-gt42
unfolding names_at named
returns-then-number-gt42 c = sym (get_or-eq_default named 0xFFFF c.if-number-gt42.true)

pub returns : goal.returns
unfolding names_at named
returns c = within_table named c.args.number 0 0xFFFF (search rules)
