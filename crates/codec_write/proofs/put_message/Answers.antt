use Rattle.codec_table.proofs.ColumnLaws.{form_at_lem, count_at_lem, tail_at_lem}
use Rattle.codec_write.proofs.MessageLaws.{fine_given, fine_some, fine_four, fine_room, fine_tail, fine_same}
use Rattle.codec_size.specs.Sizes.{given}
use mathlib.Core.Path.{refl, ◌∙◌}
use native.Mathlib.Omega.{arith}
use Rattle.codec_write.proofs.put_message.Goals as goal

pub put_head-at-requires : goal.put_head-at-requires
put_head-at-requires c = (omega (arith, (fine_given _ _ _ _ _ c.requires.1).below), rw (c.form_in-form.ensures ∙ form_at_lem _ _ c.requires.0) (fine_given _ _ _ _ _ c.requires.1).form, c.present_of-present.ensures.1, fine_some (fine_given _ _ _ _ _ c.requires.1), (fine_given _ _ _ _ _ c.requires.1).short)

pub put_fields-next-requires : goal.put_fields-next-requires
put_fields-next-requires c = (c.requires.0, fine_four (fine_given _ _ _ _ _ c.requires.1), omega (arith, (fine_given _ _ _ _ _ c.requires.1).short, c.put_head-at.ensures.size), c.put_head-at.ensures.clear, (fine_given _ _ _ _ _ c.requires.1).fits, fine_room (fine_given _ _ _ _ _ c.requires.1) (c.form_in-form.ensures ∙ form_at_lem _ _ c.requires.0) c.put_head-at.ensures refl)

pub put_tail-requires : goal.put_tail-requires
put_tail-requires c = rw (c.tail_in.ensures ∙ tail_at_lem _ _ c.requires.0) ((fine_given _ _ _ _ _ c.requires.1).tail, fine_tail (fine_given _ _ _ _ _ c.requires.1) (c.form_in-form.ensures ∙ form_at_lem _ _ c.requires.0) c.put_head-at.ensures c.put_fields-next.ensures refl)

pub returns : goal.returns
unfolding given
returns c = fine_same (fine_given _ _ _ _ _ c.requires.1) (c.form_in-form.ensures ∙ form_at_lem _ _ c.requires.0) c.put_head-at.ensures c.put_fields-next.ensures (rw (c.count_in.ensures ∙ count_at_lem _ _ c.requires.0) at c.present_of-present.ensures.0) (rw (c.tail_in.ensures ∙ tail_at_lem _ _ c.requires.0) at c.put_tail.ensures)
