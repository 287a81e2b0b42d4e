use mathlib.Core.Path.{refl}
use native.Mathlib.Omega.{arith}
use Rattle.codec_table.specs.Messages.{row, entry, is_served}
use Rattle.codec_table.specs.Columns.{count_at, tail_at, packed_at, packed}
use Rattle.codec_read_fast.specs.Shortly.{short_number}
use Rattle.codec_read_fast.proofs.ShortLaws.{none_left, id_before, shortly}
use Rattle.codec_read_fast.proofs.Shapes.{no_short}
use Rattle.codec_read_fast.proofs.one_id.Goals as goal

pub returns-then-s-ne-CCRQ : goal.returns-then-s-ne-CCRQ
returns-then-s-ne-CCRQ c = no_short c.type_inv.s (omega arith)

pub returns-in_err-id_at : goal.returns-in_err-id_at
returns-in_err-id_at c = rw c.from_residual.ensures (no_short c.type_inv.s (omega (arith, c.in_err-id_at.ensures)))

pub returns : goal.returns
unfolding row entry is_served count_at tail_at packed_at packed short_number
returns c = shortly c.args.s.now 0x44 0 (omega arith) _ _ (id_before c.in_ok-id_at.ensures (none_left (omega arith))) refl refl
