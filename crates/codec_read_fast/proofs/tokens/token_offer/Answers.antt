use mathlib.Core.Path.{refl}
use mathlib.Core.Bool.{false}
use native.Mathlib.Omega.{arith}
use Rattle.codec_table.specs.Messages.{row, entry, is_served}
use Rattle.codec_table.specs.Columns.{count_at, tail_at, packed_at, packed}
use Rattle.codec_read_fast.specs.Shortly.{token_number}
use Rattle.codec_read_fast.proofs.ShortLaws.{wish_read, none_left, id_before, wishes}
use Rattle.codec_read_fast.proofs.Shapes.{no_token}
use Rattle.codec_read_fast.proofs.tokens.token_offer.Goals as goal

pub returns-then-s : goal.returns-then-s
returns-then-s c = no_token c.type_inv.s (omega arith)

pub returns-in_err-recipient : goal.returns-in_err-recipient
returns-in_err-recipient c = rw c.from_residual.ensures (no_token c.type_inv.s (omega (arith, c.in_err-recipient.ensures)))

pub returns : goal.returns
unfolding row entry is_served count_at tail_at packed_at packed token_number
returns c =
    wish_read c.args.s.now 1 33 _ _ c.wish_at.ensures (λ h. no_token c.type_inv.s (omega (arith, h))) λ w h.
    wishes c.args.s.now 0x84 0 (omega arith) _ _
    (id_before h.user (id_before h.token (id_before c.in_ok-recipient.ensures (none_left (omega arith))))) false refl h.is refl
