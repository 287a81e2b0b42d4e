use Rattle.explain_message.specs.Messages.{id_texts}
use Rattle.explain_tokens.proofs.HolderLaws.{Rising}
use Rattle.explain_tokens.proofs.put_rising.Given as goal

abbrev pub invariant-loop : goal.invariant-loop
invariant-loop g l = Rising id_texts l.ids l.initial.lines l.lines l.low l.counter
