use borrow.Author.Rules.{rules}
use native.Mathlib.Omega.{arith}
use Rattle.codec_read.proofs.ListLaws.{owed_more}
use Rattle.codec_read.proofs.read_ids.Goals as goal

pub loop-i-preserved : goal.loop-i-preserved
loop-i-preserved c = owed_more c.loop-i.invariant c.loop-i-test.true _ _ (search rules) (search rules) (omega arith) (search rules)
