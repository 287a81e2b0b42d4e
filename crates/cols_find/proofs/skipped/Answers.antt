-- The loop goes up, 64 places at a time: x does not stand before i.
use mathlib.Core.Path.{◌≡◌, refl, ◌∙◌}
use native.Mathlib.Omega.{arith}
use borrow.Author.Rules.{rules}
use Rattle.cols_find.proofs.skipped.Goals as goal

pub loop-i-init : goal.loop-i-init
loop-i-init c = (search rules, refl)

pub near-k-requires : goal.near-k-requires
near-k-requires c = omega arith

pub returns-then-k-lt64 : goal.returns-then-k-lt64
returns-then-k-lt64 c = (search rules, c.loop-i.invariant.1 ∙ c.near-k.ensures.1)

pub loop-i-smaller : goal.loop-i-smaller
loop-i-smaller c = omega arith

pub loop-i-preserved : goal.loop-i-preserved
loop-i-preserved c =
    let e : c.near-k.result ≡ 64 = omega arith in
    (omega arith, c.loop-i.invariant.1 ∙ rw e at c.near-k.ensures.1)
