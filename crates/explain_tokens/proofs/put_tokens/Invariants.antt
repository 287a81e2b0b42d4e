use Rattle.domain_tables.specs.Held.{tokens_in}
use Rattle.explain_tokens.specs.Holders.{state_texts}
use Rattle.explain_tokens.proofs.HolderLaws.{Rising}
use Rattle.explain_tokens.proofs.put_tokens.Given as goal

abbrev pub invariant-loop : goal.invariant-loop
invariant-loop g l = Rising (state_texts l.users.ids (tokens_in l.tokens)) l.list l.initial.lines l.lines l.low l.counter
