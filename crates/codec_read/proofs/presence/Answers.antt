use native.Mathlib.Omega.{arith}
use mathlib.Core.Path.{sym, ◌∙◌}
use Rattle.codec_read.proofs.RowLaws.{on_unknown, on_uncovered, on_plain, on_optional}
use Rattle.codec_table.proofs.ColumnLaws.{form_at_lem}
use borrow.Author.Rules.{rules}
use Rattle.codec_read.proofs.presence.Goals as goal

pub returns-then-form-gt2 : goal.returns-then-form-gt2
returns-then-form-gt2 c = on_unknown _ _ _ (rw (c.form_in-form.ensures ∙ form_at_lem c.args.number _ c.requires.3) at c.if-form-gt2.true)

pub returns-then-form-eq2 : goal.returns-then-form-eq2
returns-then-form-eq2 c = on_uncovered _ _ _ (sym (c.form_in-form.ensures ∙ form_at_lem c.args.number _ c.requires.3) ∙ c.if-form-eq2.true)

pub returns-then-form-eq0 : goal.returns-then-form-eq0
returns-then-form-eq0 c = on_plain _ _ _ (sym (c.form_in-form.ensures ∙ form_at_lem c.args.number _ c.requires.3) ∙ c.if-form-eq0.true) (search rules) (search rules)

pub returns : goal.returns
returns c = on_optional _ _ _ (omega (arith, c.form_in-form.ensures ∙ form_at_lem c.args.number _ c.requires.3, c.if-form-gt2.false, c.if-form-eq2.false, c.if-form-eq0.false)) (search rules) _ c.take_code.ensures
