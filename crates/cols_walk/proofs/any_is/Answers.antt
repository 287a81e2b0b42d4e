-- No cell passed is k.
use Prim.Native.Nat.{ℕ}
use mathlib.Core.Path.{◌≡◌}
use native.Mathlib.Omega.{arith}
use lib.Dec.{eqb}
use lib.ListN.{get_or}
use borrow.Author.Count.{below_more}
use borrow.Author.Tests.{eqb-false}
use borrow.Author.Rules.{rules}
use Rattle.cols_spec.proofs.Bools.{or_parts}
use Rattle.cols_walk.proofs.any_is.Goals as goal

pub loop-c-init : goal.loop-c-init
loop-c-init c = (search rules, λ e j h. absurd (omega arith))

pub loop-c-preserved : goal.loop-c-preserved
loop-c-preserved c =
    let b = c.loop-c in
    let a = c.args in
    let here = eqb (get_or a.cells.now b.c-index 0) a.k in
    (search rules, λ e. below_more (λ (j : ℕ). get_or a.cells.now j 0 ≡ a.k → ⊥) b.c-index (b.invariant.1 (or_parts b.any here e).0) (eqb-false _ _ (or_parts b.any here e).1))

pub returns : goal.returns
returns c = λ e j h. c.loop-c.invariant.1 e j (omega arith)
