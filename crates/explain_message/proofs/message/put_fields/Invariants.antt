use Rattle.explain_message.specs.Messages.{field_texts}
use Rattle.trace_io.proofs.Saying.{SaysOn}
use Rattle.explain_message.proofs.message.put_fields.Given as goal

abbrev pub invariant-loop-i : goal.invariant-loop-i
invariant-loop-i g l = SaysOn (field_texts l.number) l.values l.initial.lines l.i l.lines
