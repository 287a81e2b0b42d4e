use Rattle.explain_words.proofs.WordLaws.{Fronting}
use Rattle.explain_words.proofs.words.size_of.Given as goal

abbrev pub invariant-loop-i : goal.invariant-loop-i
invariant-loop-i l = Fronting l.row l.i
