use Rattle.explain_tokens.proofs.HolderLaws.{rising_start, rising_more, rising_done, rising_over}
use Rattle.explain_tokens.proofs.put_rising.Goals as goal

pub loop-init : goal.loop-init
loop-init g c = rising_start

pub returns-then-k-eq0 : goal.returns-then-k-eq0
returns-then-k-eq0 g c = rising_done c.next-k.result c.loop.invariant c.next-k.ensures c.if-k-eq0.true

pub loop-preserved : goal.loop-preserved
loop-preserved g c = rising_more c.next-k.result c.loop.invariant c.next-k.ensures c.if-k-eq0.false c.loop-test.true c.put_id.ensures

pub returns : goal.returns
returns g c = rising_over c.loop.invariant c.loop-test.false
