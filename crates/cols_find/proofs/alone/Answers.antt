-- The loop adds up what each place brings.
use mathlib.Core.Path.{refl}
use native.Mathlib.Omega.{arith}
use borrow.Author.Rules.{rules}
use Rattle.cols_find.proofs.Looked.{past}
use Rattle.cols_find.proofs.Summed.{summed_none, summed_next}
use Rattle.cols_find.proofs.alone.Goals as goal

pub loop-k-init : goal.loop-k-init
loop-k-init c = (search rules, summed_none)

pub overflow_add-sum : goal.overflow_add-sum
overflow_add-sum c = omega arith

pub loop-k-preserved : goal.loop-k-preserved
loop-k-preserved c = (search rules, summed_next c.loop-k.invariant.1 (search rules) (search rules) c.if_so-sum.ensures.0)

pub returns-then-sum-lt256 : goal.returns-then-sum-lt256
returns-then-sum-lt256 c =
    (search rules, past _ _ _ _ _ (omega arith) (c.loop-k.invariant.1.none (search rules)).1)

pub returns-then-sum-lt512 : goal.returns-then-sum-lt512
returns-then-sum-lt512 c =
    let p = c.loop-k.invariant.1.one (search rules) (search rules) in
    (omega arith, p.1)

pub returns : goal.returns
returns c = (search rules, past _ _ _ _ _ (omega arith) refl)
