use Rattle.explain_message.specs.Messages.{ids_texts}
use Rattle.trace_io.proofs.Saying.{on_step, on_end}
use Rattle.explain_message.proofs.message.put_fields.Goals as goal

pub loop-i-preserved : goal.loop-i-preserved
unfolding ids_texts
loop-i-preserved g c = on_step c.loop-i.invariant c.loop-i-test.true c.put_field.ensures

pub returns : goal.returns
returns g c = on_end c.loop-i.invariant c.loop-i-test.false
