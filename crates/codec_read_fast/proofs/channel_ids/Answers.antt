use mathlib.Core.Path.{refl}
use native.Mathlib.Omega.{arith}
use Rattle.codec_table.specs.Messages.{row, entry, is_served}
use Rattle.codec_table.specs.Columns.{count_at, tail_at, packed_at, packed}
use Rattle.codec_read_fast.specs.Shortly.{short_number}
use Rattle.codec_read_fast.proofs.ShortLaws.{none_left, id_before, shortly}
use Rattle.codec_read_fast.proofs.Shapes.{no_short}
use Rattle.codec_read_fast.proofs.channel_ids.Goals as goal

pub returns-in_default : goal.returns-in_default
returns-in_default c = no_short c.type_inv.s (omega arith)

pub returns-in_err-id_at-in-56 : goal.returns-in_err-id_at-in-56
returns-in_err-id_at-in-56 c = rw c.from_residual.ensures (no_short c.type_inv.s (omega (arith, c.in_err-id_at-in-56.ensures)))

pub returns-in_err-id_at-in-56-2 : goal.returns-in_err-id_at-in-56-2
returns-in_err-id_at-in-56-2 c = rw c.from_residual-in_err-id_at-in-56-2.ensures (no_short c.type_inv.s (omega (arith, c.in_err-id_at-in-56-2.ensures)))

pub returns-in_ok-id_at-in-56-2 : goal.returns-in_ok-id_at-in-56-2
unfolding row entry is_served count_at tail_at packed_at packed short_number
returns-in_ok-id_at-in-56-2 c =
    shortly c.args.s.now 0x38 0 (omega (arith, c.in-56.is)) _ _ (id_before c.in_ok-id_at-in-56.ensures (id_before c.in_ok-id_at-in-56-2.ensures (none_left (omega arith)))) refl refl

pub returns-in_err-id_at-in-76 : goal.returns-in_err-id_at-in-76
returns-in_err-id_at-in-76 c = rw c.from_residual-in_err-id_at-in-76.ensures (no_short c.type_inv.s (omega (arith, c.in_err-id_at-in-76.ensures)))

pub returns-in_err-id_at-in-76-2 : goal.returns-in_err-id_at-in-76-2
returns-in_err-id_at-in-76-2 c = rw c.from_residual-in_err-id_at-in-76-2.ensures (no_short c.type_inv.s (omega (arith, c.in_err-id_at-in-76-2.ensures)))

pub returns-in_ok-id_at-in-76-2 : goal.returns-in_ok-id_at-in-76-2
unfolding row entry is_served count_at tail_at packed_at packed short_number
returns-in_ok-id_at-in-76-2 c =
    shortly c.args.s.now 0x4C 0 (omega (arith, c.in-76.is)) _ _ (id_before c.in_ok-id_at-in-76.ensures (id_before c.in_ok-id_at-in-76-2.ensures (none_left (omega arith)))) refl refl
