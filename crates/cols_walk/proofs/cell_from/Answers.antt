-- The loop goes up: no cell before i is k.
use mathlib.Core.Path.{◌≡◌, sym, ap, ◌∙◌}
use native.Mathlib.Omega.{arith}
use native.Mathlib.Numerals.{add-one}
use lib.ListN.{length}
use borrow.Author.Rules.{rules}
use Rattle.cols_spec.specs.Places.{number}
use Rattle.cols_spec.proofs.Places.{first_hit, first_miss, first_none}
use Rattle.cols_walk.proofs.cell_from.Goals as goal

pub returns-then-n-from : goal.returns-then-n-from
unfolding number
returns-then-n-from c = sym (ap (number _) (first_none _ _ _ (search rules)))

pub loop-i-init : goal.loop-i-init
loop-i-init c = (search rules, c.past_cells-i.ensures.1)

pub returns-then-cells-i : goal.returns-then-cells-i
unfolding number
returns-then-cells-i c = sym (ap (number _) (c.loop-i.invariant.1 ∙ first_hit _ _ _ (search rules) c.if-cells-i.true))

pub loop-i-preserved : goal.loop-i-preserved
loop-i-preserved c = (search rules, rw add-one (c.loop-i.invariant.1 ∙ first_miss _ _ _ (search rules) c.if-cells-i.false))

pub returns : goal.returns
unfolding number
returns c =
    let b = c.loop-i in
    let a = c.args in
    let e : b.i ≡ length a.cells.now = omega arith in
    sym (ap (number (length a.cells.now)) (b.invariant.1 ∙ first_none _ _ _ (search rules)))
