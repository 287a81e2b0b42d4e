-- The loop goes up: x does not stand before i.
use mathlib.Core.Path.{◌≡◌, sym, ap, ◌∙◌}
use native.Mathlib.Omega.{arith}
use native.Mathlib.Numerals.{add-one}
use lib.ListN.{length}
use borrow.Author.Rules.{rules}
use Rattle.cols_spec.specs.Places.{number}
use Rattle.cols_spec.proofs.Places.{first_hit, first_miss, first_none}
use Rattle.cols_find.proofs.first.Goals as goal

pub returns-then-at_start : goal.returns-then-at_start
unfolding number
returns-then-at_start c = let s = c.at_start.ensures c.if-at_start.true in sym (ap (number _) (first_hit _ _ 0 s.0 s.1))

pub loop-i-init : goal.loop-i-init
loop-i-init c = (search rules, c.skipped-from.ensures.1)

pub returns-then-ids-i : goal.returns-then-ids-i
unfolding number
returns-then-ids-i c = sym (ap (number _) (c.loop-i.invariant.1 ∙ first_hit _ _ _ (search rules) c.if-ids-i.true))

pub loop-i-preserved : goal.loop-i-preserved
loop-i-preserved c = (search rules, rw add-one (c.loop-i.invariant.1 ∙ first_miss _ _ _ (search rules) c.if-ids-i.false))

pub returns : goal.returns
unfolding number
returns c =
    let b = c.loop-i in
    let a = c.args in
    let e : b.i ≡ length a.ids.now = omega arith in
    sym (ap (number (length a.ids.now)) (b.invariant.1 ∙ first_none _ _ _ (search rules)))
