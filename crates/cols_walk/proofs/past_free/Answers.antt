-- The loop goes up, eight places at a time: none before i is in use.
use mathlib.Core.Path.{refl, ◌∙◌}
use native.Mathlib.Omega.{arith}
use borrow.Author.Rules.{rules}
use Rattle.cols_spec.proofs.Busy.{busy_past}
use Rattle.cols_walk.proofs.past_free.Goals as goal

pub loop-i-init : goal.loop-i-init
loop-i-init c = (search rules, refl)

pub row_of_eight-requires : goal.row_of_eight-requires
row_of_eight-requires c = (omega arith, omega arith)

pub loop-i-smaller : goal.loop-i-smaller
loop-i-smaller c = omega arith

pub loop-i-preserved : goal.loop-i-preserved
loop-i-preserved c =
    let b = c.loop-i in
    (omega arith, b.invariant.1 ∙ busy_past _ b.i 8 (omega arith) (c.row_of_eight.ensures c.if-not-row_of_eight.false))
