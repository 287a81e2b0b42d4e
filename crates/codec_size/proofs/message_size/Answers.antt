use mathlib.Core.Path.{◌∙◌}
use Rattle.codec_table.proofs.ColumnLaws.{form_at_lem, count_at_lem}
use Rattle.codec_size.proofs.MessageSizes.{size_uncovered, size_few, size_many, size_four, size_body}
use borrow.Author.Rules.{rules}
use Rattle.codec_size.proofs.message_size.Goals as goal

pub returns-then-form-gt1 : goal.returns-then-form-gt1
returns-then-form-gt1 c = size_uncovered _ _ _ _ _ (c.form_in-form.ensures ∙ form_at_lem _ _ c.requires) c.if-form-gt1.true

pub returns-then-values-count : goal.returns-then-values-count
returns-then-values-count c = size_few _ _ _ _ _ (c.form_in-form.ensures ∙ form_at_lem _ _ c.requires) c.if-form-gt1.false _ (c.count_in-count.ensures ∙ count_at_lem _ _ c.requires) c.if-values-count.true

pub returns-then-count-form : goal.returns-then-count-form
returns-then-count-form c = size_many _ _ _ _ _ (c.form_in-form.ensures ∙ form_at_lem _ _ c.requires) c.if-form-gt1.false _ (c.count_in-count.ensures ∙ count_at_lem _ _ c.requires) c.if-count-form.true

pub body_size-requires : goal.body_size-requires
body_size-requires c = (search rules, size_four _ c.args.values.now c.args.ids.now c.args.octets.now _ (c.form_in-form.ensures ∙ form_at_lem _ _ c.requires) c.if-form-gt1.false _ (c.count_in-count.ensures ∙ count_at_lem _ _ c.requires) c.if-values-count.false c.if-count-form.false, c.requires)

pub returns : goal.returns
returns c = size_body _ _ _ _ _ (c.form_in-form.ensures ∙ form_at_lem _ _ c.requires) c.if-form-gt1.false _ (c.count_in-count.ensures ∙ count_at_lem _ _ c.requires) c.if-values-count.false c.if-count-form.false c.body_size.ensures
