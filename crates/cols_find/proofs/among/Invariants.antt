-- The loop looks at one place after the other.
use Rattle.cols_find.proofs.Looked.{Looked}
use Rattle.cols_find.proofs.among.Given as goal

abbrev pub invariant-loop-k : goal.invariant-loop-k
invariant-loop-k l = Looked l.ids l.from l.x 64 l.k l.most
