use lib.ListN.{length-set}
use native.Mathlib.Omega.{arith}
use Rattle.codec_read_fast.proofs.ListLaws.{stored_none, stored_more, stored_all}
use borrow.Author.Rules.{rules}
use Rattle.codec_read_fast.proofs.lists.ids_at.Goals as goal

pub loop-i-init : goal.loop-i-init
loop-i-init c = (omega arith, stored_none _ _ _ _)

pub loop-i-preserved : goal.loop-i-preserved
loop-i-preserved c = (omega arith, stored_more c.loop-i.invariant.1 _ c.in_ok-listed.ensures (omega arith))

pub returns : goal.returns
returns c = stored_all c.loop-i.invariant.1 (omega arith)
