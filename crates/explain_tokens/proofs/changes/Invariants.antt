use Rattle.domain_tables.specs.Held.{tokens_in}
use Rattle.explain_tokens.proofs.Changing.{Changing}
use Rattle.explain_tokens.proofs.changes.Given as goal

abbrev pub invariant-loop-i : goal.invariant-loop-i
invariant-loop-i l = Changing (tokens_in l.old) (tokens_in l.tokens) l.i l.list
