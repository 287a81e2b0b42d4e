use native.Mathlib.Omega.{arith}
use mathlib.Core.Path.{refl, ap, ◌∙◌, subst}
use mathlib.Core.Bool.{false}
use mathlib.Core.Logic.{⊎_elim}
use Rattle.codec_table.specs.Messages.{row, entry, is_served}
use Rattle.codec_table.specs.Columns.{count_at, tail_at, packed_at, packed}
use Rattle.codec_read_fast.specs.Shortly.{token_number}
use Rattle.codec_read_fast.proofs.ShortLaws.{wish_read, begins, none_left, id_before, wishes}
use Rattle.codec_read_fast.proofs.Shapes.{Paired, no_token}
use Rattle.codec_read_fast.proofs.tokens.token_ids.Goals as goal

pub returns-in-116 : goal.returns-in-116
unfolding row entry is_served count_at tail_at packed_at packed token_number
returns-in-116 c =
    let s = c.args.s.now in
    let o = c.wide in
    wish_read s 1 _ 0 _ c.wish_at.ensures (λ h. no_token c.type_inv.s (omega (arith, h, c.in-116.is))) λ w h.
    wishes s o.result 0 (omega (arith, o.ensures, c.in-116.is)) _ _ (id_before h.user (id_before h.token (none_left (omega arith)))) false
    (ap begins o.ensures.0 ∙ ⊎_elim (ap begins) (⊎_elim (ap begins) (⊎_elim (ap begins) (⊎_elim (ap begins) (ap begins)))) c.in-116.is) h.is refl

pub returns-in_default : goal.returns-in_default
returns-in_default c = no_token c.type_inv.s (record { pair = λ n l k h. grind (arith, h.first); offer = omega arith; answer = omega arith })
