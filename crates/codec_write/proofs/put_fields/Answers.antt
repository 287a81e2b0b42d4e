use mathlib.Core.Path.{◌∙◌}
use Rattle.codec_table.proofs.ColumnLaws.{kind_at_lem}
use Rattle.codec_write.proofs.FieldLaws.{putting_none, putting_fits, putting_room, putting_more, putting_near, putting_all}
use borrow.Author.Rules.{rules}
use native.Mathlib.Omega.{arith}
use Rattle.codec_write.proofs.put_fields.Goals as goal

pub loop-i-init : goal.loop-i-init
loop-i-init c = putting_none _ _ _ _ c.requires.4 c.requires.3

pub put_field-at-requires : goal.put_field-at-requires
put_field-at-requires c = rw (c.kind_in.ensures ∙ kind_at_lem _ _ c.requires.0 _) (record { fits = putting_fits _ c.loop-i.invariant (search rules) c.requires.5 c.loop-i-test.true; room = putting_room _ c.loop-i.invariant (search rules) c.requires.5 c.loop-i-test.true; short = omega (arith, c.loop-i.invariant.size, c.requires.2); clear = c.loop-i.invariant.clear })

pub loop-i-preserved : goal.loop-i-preserved
loop-i-preserved c = putting_more _ c.loop-i.invariant (search rules) c.requires.5 c.loop-i-test.true _ (rw (c.kind_in.ensures ∙ kind_at_lem _ _ c.requires.0 _) at c.put_field-at.ensures)

pub overflow_add-result : goal.overflow_add-result
overflow_add-result c = omega (arith, putting_near _ c.loop-i.invariant (search rules) c.requires.5 c.requires.2)

pub shape_of-s : goal.shape_of-s
shape_of-s c = c.loop-i.invariant.size

pub returns : goal.returns
returns c = putting_all _ c.loop-i.invariant (search rules) c.requires.5 c.loop-i-test.false
