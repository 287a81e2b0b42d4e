-- The places passed are in a row, where all is still true.
use mathlib.Core.Path.{◌≡◌}
use Prim.Native.Nat.{ℕ, ◌+◌, ◌*◌}
use native.Mathlib.Omega.{arith}
use lib.ListN.{get_or}
use borrow.Author.Count.{below_more}
use borrow.Author.Tests.{eqb-true}
use Rattle.cols_spec.proofs.Bools.{and_parts}
use Rattle.cols_walk.proofs.row_of_eight.Goals as goal

pub loop-k-init : goal.loop-k-init
loop-k-init c = λ e k l. absurd (omega arith)

pub loop-k-preserved : goal.loop-k-preserved
loop-k-preserved c e =
    let a = c.args in
    let b = c.loop-k in
    let both = and_parts _ _ e in
    below_more (λ (k : ℕ). get_or a.ids.now (a.i + k) 0 ≡ a.x + k * a.step) b.k (b.invariant both.0) (eqb-true _ _ both.1)
