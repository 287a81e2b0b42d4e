-- The loop takes the lowest user out of the set.
use native.Mathlib.Omega.{arith}
use lib.Count.{count_trailing_zeros}
use borrow.Author.Rules.{rules}
use Rattle.domain_tables.proofs.UserLaws.{lowest_small, left_all, left_higher, left_next, left_none, link_is}
use Rattle.domain_tables.proofs.users.Users.hosts.Goals as goal

pub loop-left-init : goal.loop-left-init
loop-left-init c = (search rules, left_all _ _ (search rules))

pub overflow_cast-i : goal.overflow_cast-i
overflow_cast-i c = omega (arith, lowest_small _ c.loop-left.invariant.1.fits c.loop-left-test.true)

pub bounds-self-i : goal.bounds-self-i
bounds-self-i c = omega (arith, lowest_small _ c.loop-left.invariant.1.fits c.loop-left-test.true)

pub overflow_cast-i-in-loop-left : goal.overflow_cast-i-in-loop-left
overflow_cast-i-in-loop-left c = omega (arith, lowest_small _ c.loop-left.invariant.1.fits c.loop-left-test.true)

pub loop-left-smaller : goal.loop-left-smaller
loop-left-smaller c =
    let b = c.loop-left in
    let small = lowest_small b.left b.invariant.1.fits c.loop-left-test.true in
    rw c.without-left.ensures (omega (arith, left_higher b.invariant.1 small))

pub loop-left-preserved : goal.loop-left-preserved
loop-left-preserved c =
    let a = c.args in
    let b = c.loop-left in
    let small = lowest_small b.left b.invariant.1.fits c.loop-left-test.true in
    (b.invariant.0, rw (c.without-left.ensures, c.with-m.ensures, ← link_is a.self.now.ids a.self.now.links (count_trailing_zeros 64 b.left) (omega arith)) (left_next b.invariant.1 small))

pub returns : goal.returns
returns c = left_none c.loop-left.invariant.1 (search rules)
