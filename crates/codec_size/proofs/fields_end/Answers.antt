use mathlib.Core.Path.{◌∙◌}
use Rattle.codec_table.proofs.ColumnLaws.{kind_at_lem}
use Rattle.codec_size.proofs.FieldEnds.{ending_not, ending_more, ending_all}
use Rattle.std.proofs.lemmas.Grind.{common_steps}
use native.Mathlib.Omega.{arith}
use borrow.Author.Rules.{rules}
use Rattle.codec_size.proofs.fields_end.Goals as goal

pub returns-in_err-at : goal.returns-in_err-at
returns-in_err-at c =
    let h = ending_not _ c.loop-i.invariant (search rules) c.loop-i-test.true _ (rw (c.kind_in.ensures ∙ kind_at_lem _ _ c.requires.2 _) at c.field_end.ensures) _ c.in_err-at.was in
    grind (arith, common_steps)

pub loop-i-preserved : goal.loop-i-preserved
loop-i-preserved c = ending_more _ c.loop-i.invariant (search rules) c.loop-i-test.true _ (rw (c.kind_in.ensures ∙ kind_at_lem _ _ c.requires.2 _) at c.field_end.ensures) _ c.in_ok-at.was

pub returns : goal.returns
returns c = ending_all _ c.loop-i.invariant (search rules) c.loop-i-test.false
