use mathlib.Core.Path.{refl, ap, ◌∙◌}
use mathlib.Core.Logic.{⊎_elim}
use native.Mathlib.Omega.{arith}
use Rattle.codec_table.specs.Messages.{row, entry, is_served}
use Rattle.codec_table.specs.Columns.{count_at, tail_at, packed_at, packed}
use Rattle.codec_read_fast.proofs.ShortLaws.{then_more, id_before}
use Rattle.codec_read_fast.proofs.ListLaws.{begins, heads}
use Rattle.codec_read_fast.proofs.lists.ids_head.Goals as goal

pub returns-in_ok-id_at-in-84-2 : goal.returns-in_ok-id_at-in-84-2
unfolding row entry is_served count_at tail_at packed_at packed
returns-in_ok-id_at-in-84-2 c =
    let o = c.wide in
    heads c.args.s.now o.result o.ensures.0 (omega arith) o.ensures.1 _ _ _ 5 1001
    (id_before c.in_ok-id_at-in-84.ensures (id_before c.in_ok-id_at-in-84-2.ensures then_more))
    (ap begins o.ensures.0 ∙ ⊎_elim (ap begins) (ap begins) c.in-84.is) refl (omega arith) (omega arith)
