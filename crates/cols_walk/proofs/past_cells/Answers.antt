-- The loop goes up, sixteen cells at a time: none before i is k.
use Prim.Native.Nat.{◌+◌, ◌-◌}
use mathlib.Core.Path.{◌≡◌, refl, ◌∙◌}
use native.Mathlib.Omega.{arith}
use borrow.Author.Rules.{rules}
use Rattle.cols_walk.proofs.Widths.{first_past, part_has_none}
use Rattle.cols_walk.proofs.past_cells.Goals as goal

pub loop-i-init : goal.loop-i-init
loop-i-init c = (search rules, refl)

pub loop-i-smaller : goal.loop-i-smaller
loop-i-smaller c = omega arith

pub loop-i-preserved : goal.loop-i-preserved
loop-i-preserved c =
    let b = c.loop-i in
    let a = c.args in
    let e : b.i + 16 - b.i ≡ 16 = omega arith in
    (omega arith, b.invariant.1 ∙ first_past a.cells.now b.i 16 a.k (omega arith) (part_has_none a.cells.now b.i 16 a.k (omega arith) (rw e at (c.any_is.ensures c.if-any_is.false))))
