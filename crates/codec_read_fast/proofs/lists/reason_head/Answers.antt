use mathlib.Core.Path.{refl, ap, ◌∙◌}
use native.Mathlib.Omega.{arith}
use Prim.Native.Nat.{◌/◌}
use Rattle.codec_table.specs.Messages.{row, entry, is_served}
use Rattle.codec_table.specs.Columns.{count_at, tail_at, packed_at, packed}
use Rattle.codec_read_fast.proofs.ShortLaws.{then_more, reason_before}
use Rattle.codec_read_fast.proofs.ListLaws.{heads}
use Rattle.codec_read_fast.proofs.lists.reason_head.Goals as goal

pub returns : goal.returns
unfolding row entry is_served count_at tail_at packed_at packed
returns c =
    let o = c.wide-o in
    let p = c.wide-p in
    let e = ap (λ n. n / 4) o.ensures.0 ∙ c.requires.1 in
    rw (← e) (heads c.args.s.now o.result o.ensures.0 (omega arith) o.ensures.1 _ _ _ 2 1001
    (reason_before o.result p.result (omega arith) p.ensures.0 p.ensures.1 c.if-p-ne0.false (omega arith) then_more) (rw e refl) refl (omega arith) (omega arith))
