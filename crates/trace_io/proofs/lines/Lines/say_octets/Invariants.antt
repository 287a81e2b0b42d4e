use Rattle.trace_io.specs.Hexadecimal.{octet_texts}
use Rattle.trace_io.proofs.Saying.{SaysOn}
use Rattle.trace_io.proofs.lines.Lines.say_octets.Given as goal

abbrev pub invariant-loop-octet : goal.invariant-loop-octet
invariant-loop-octet g l = SaysOn (octet_texts l.apart) l.octets l.initial.self l.octet-index l.self
