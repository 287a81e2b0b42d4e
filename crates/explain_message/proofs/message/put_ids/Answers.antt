use Rattle.explain_message.specs.Messages.{ids_texts}
use Rattle.trace_io.proofs.Saying.{on_step, on_end}
use Rattle.explain_message.proofs.message.put_ids.Goals as goal

pub loop-id-preserved : goal.loop-id-preserved
unfolding ids_texts
loop-id-preserved g c = on_step c.loop-id.invariant c.loop-id-test.true c.put_id.ensures

pub returns : goal.returns
returns g c = on_end c.loop-id.invariant c.loop-id-test.false
