-- What is left to look at decides, from the least so far.
use Rattle.cols_spec.proofs.Turns.{Seeking}
use Rattle.cols_walk.proofs.next.Given as goal

abbrev pub invariant-loop-x : goal.invariant-loop-x
invariant-loop-x l = Seeking l.low l.ids l.best l.x-index
