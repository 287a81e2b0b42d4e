use mathlib.Core.Path.{refl}
use mathlib.Core.Bool.{true}
use native.Mathlib.Omega.{arith}
use Rattle.codec_table.specs.Messages.{row, entry, is_served}
use Rattle.codec_table.specs.Columns.{count_at, tail_at, packed_at, packed}
use Rattle.codec_read_fast.specs.Shortly.{token_number}
use Rattle.codec_read_fast.proofs.ShortLaws.{wish_read, none_left, id_before, result_before, wishes}
use Rattle.codec_read_fast.proofs.Shapes.{no_token}
use Rattle.codec_read_fast.proofs.tokens.token_answer.Goals as goal

pub returns-then-o-ne-TVRS : goal.returns-then-o-ne-TVRS
returns-then-o-ne-TVRS c = no_token c.type_inv.s (omega arith)

pub returns-then-p-ne0 : goal.returns-then-p-ne0
returns-then-p-ne0 c = no_token c.type_inv.s (omega arith)

pub returns : goal.returns
unfolding row entry is_served count_at tail_at packed_at packed token_number
returns c =
    let o = c.wide-o in
    let p = c.wide-p in
    let e = c.if-o-ne-TVRS.false in
    wish_read c.args.s.now 2 35 _ _ c.wish_at.ensures (λ h. no_token c.type_inv.s (omega (arith, h, o.ensures, p.ensures))) λ w h.
    wishes c.args.s.now o.result _ (omega (arith, o.ensures)) _ _
    (result_before o.result p.result (omega arith) p.ensures.0 p.ensures.1 c.if-p-ne0.false (id_before h.user (id_before h.token (none_left (omega arith))))) true (rw e refl) (rw e h.is) refl
