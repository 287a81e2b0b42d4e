-- The loop goes from one connection of the mask to the next: those between tell nothing.
use borrow.Author.Rules.{rules}
use native.Mathlib.Omega.{arith}
use Rattle.cols_spec.proofs.Nexts.{next_behind}
use Rattle.out_records.proofs.Telling.{told_start, told_turn, told_end}
use Rattle.out_records.proofs.tell_all.Goals as goal

pub loop-q-init : goal.loop-q-init
loop-q-init c = told_start _ _ c.next_in-q.ensures

pub loop-q-smaller : goal.loop-q-smaller
loop-q-smaller c = omega (arith, next_behind c.next_in-q-in-loop-q.ensures (omega arith))

pub loop-q-preserved : goal.loop-q-preserved
loop-q-preserved c = told_turn _ _ (search rules) (search rules) c.loop-q.invariant c.lay_record-at.ensures c.next_in-q-in-loop-q.ensures

pub shape_of-out : goal.shape_of-out
shape_of-out c = c.loop-q.invariant.onward.size

pub returns : goal.returns
returns c = told_end _ _ (search rules) c.loop-q.invariant
