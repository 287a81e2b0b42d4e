-- The loop goes up: no place before i is in use.
use mathlib.Core.Path.{◌≡◌, sym, ap, ◌∙◌}
use native.Mathlib.Omega.{arith}
use native.Mathlib.Numerals.{add-one}
use lib.ListN.{length}
use borrow.Author.Rules.{rules}
use Rattle.cols_spec.specs.Places.{number}
use Rattle.cols_spec.proofs.Busy.{busy_hit, busy_miss, busy_none}
use Rattle.cols_walk.proofs.used_from.Goals as goal

pub returns-then-n-from : goal.returns-then-n-from
unfolding number
returns-then-n-from c = sym (ap (number _) (busy_none _ _ (search rules)))

pub returns-then-ids-from-gt0 : goal.returns-then-ids-from-gt0
unfolding number
returns-then-ids-from-gt0 c = sym (ap (number _) (busy_hit _ _ (search rules) c.if-ids-from-gt0.true))

pub loop-i-init : goal.loop-i-init
loop-i-init c = (search rules, c.past_free-i.ensures.1)

pub returns-then-ids-i-gt0 : goal.returns-then-ids-i-gt0
unfolding number
returns-then-ids-i-gt0 c = sym (ap (number _) (c.loop-i.invariant.1 ∙ busy_hit _ _ (search rules) c.if-ids-i-gt0.true))

pub loop-i-preserved : goal.loop-i-preserved
loop-i-preserved c = (search rules, rw add-one (c.loop-i.invariant.1 ∙ busy_miss _ _ (search rules) (omega arith)))

pub returns : goal.returns
unfolding number
returns c =
    let b = c.loop-i in
    let ids = c.args.ids.now in
    let e : b.i ≡ length ids = omega arith in
    sym (ap (number (length ids)) (b.invariant.1 ∙ busy_none _ _ (search rules)))
