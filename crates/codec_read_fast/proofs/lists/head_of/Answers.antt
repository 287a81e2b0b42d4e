use mathlib.Core.Path.{refl}
use mathlib.Core.List.{[]}
use native.Mathlib.Omega.{arith}
use Rattle.codec_table.specs.Messages.{row, entry, is_served}
use Rattle.codec_table.specs.Columns.{count_at, tail_at, packed_at, packed}
use Rattle.codec_read_fast.proofs.ShortLaws.{then_more}
use Rattle.codec_read_fast.proofs.ListLaws.{heads}
use Rattle.codec_read_fast.proofs.lists.head_of.Goals as goal

pub returns-then-o-eq-CLRQ : goal.returns-then-o-eq-CLRQ
unfolding row entry is_served count_at tail_at packed_at packed
returns-then-o-eq-CLRQ c = heads c.args.s.now 0x40 (omega arith) (omega arith) (omega arith) 0 [] [] 1 0 then_more refl refl (omega arith) (omega arith)
