-- The loop goes up, eight places at a time: those before i are in a row.
use native.Mathlib.Omega.{arith}
use borrow.Author.Rules.{rules}
use Rattle.cols_spec.proofs.Busy.{row_on}
use Rattle.cols_walk.proofs.in_row.Goals as goal

pub loop-i-init : goal.loop-i-init
loop-i-init c = (search rules, search rules, search rules, λ k l. absurd (omega arith))

pub row_of_eight-requires : goal.row_of_eight-requires
row_of_eight-requires c = (omega arith, omega arith)

pub returns-then-not-row_of_eight : goal.returns-then-not-row_of_eight
returns-then-not-row_of_eight c = (omega arith, omega arith, c.loop-i.invariant.3)

pub loop-i-smaller : goal.loop-i-smaller
loop-i-smaller c = omega arith

pub loop-i-preserved : goal.loop-i-preserved
loop-i-preserved c = let b = c.loop-i in
    (omega arith, b.invariant.1, b.invariant.2, row_on c.args.ids.now b.i 8 1001 b.invariant.3 (c.row_of_eight.ensures c.if-not-row_of_eight.false))

pub returns : goal.returns
returns c = (omega arith, omega arith, c.loop-i.invariant.3)
