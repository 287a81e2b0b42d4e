use mathlib.Core.Path.{refl}
use mathlib.Core.List.{[]}
use native.Mathlib.Omega.{arith}
use Rattle.codec_table.specs.Messages.{row, entry, is_served}
use Rattle.codec_table.specs.Columns.{count_at, tail_at, packed_at, packed}
use Rattle.codec_read_fast.specs.Shortly.{short_number}
use Rattle.codec_read_fast.proofs.ShortLaws.{none_left, shortly}
use Rattle.codec_read_fast.proofs.Shapes.{no_short}
use Rattle.codec_read_fast.proofs.no_ids.Goals as goal

pub returns-then-s-ne-AURQ : goal.returns-then-s-ne-AURQ
returns-then-s-ne-AURQ c = no_short c.type_inv.s (omega arith)

pub returns : goal.returns
unfolding row entry is_served count_at tail_at packed_at packed short_number
returns c = shortly c.args.s.now 0x28 0 (omega arith) [] [] (none_left (omega arith)) refl refl
