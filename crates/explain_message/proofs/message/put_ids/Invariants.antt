use Rattle.explain_message.specs.Messages.{ids_texts}
use Rattle.trace_io.proofs.Saying.{SaysOn}
use Rattle.explain_message.proofs.message.put_ids.Given as goal

abbrev pub invariant-loop-id : goal.invariant-loop-id
invariant-loop-id g l = SaysOn ids_texts l.ids l.initial.lines l.id-index l.lines
