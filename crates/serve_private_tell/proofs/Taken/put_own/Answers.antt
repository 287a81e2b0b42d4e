-- What is laid so far, and what is owed from place i on, are all of them.
use mathlib.Core.Path.{refl}
use native.Mathlib.Omega.{arith}
use borrow.Author.Rules.{rules}
use Rattle.out_records.proofs.Laying.{onward_start, onward_step, onward_end}
use Rattle.serve_private_tell.specs.Sieve.{owned_by}
use Rattle.serve_private_tell.proofs.Hearing.{owing_first, owing_next, owing_end, owing_none}
use Rattle.serve_private_tell.proofs.Taken.put_own.Goals as goal

pub loop-i-init : goal.loop-i-init
loop-i-init c = let a = c.args in record {
  within = omega arith;
  same_length = refl;
  onward = λ us loc e. rw (owing_first us a.q (search rules) a.list.now a.self.now.spots loc a.first e) (onward_start _ _ _);
}

pub returns-then-at-end-clause-puts : goal.returns-then-at-end-clause-puts
returns-then-at-end-clause-puts c = let b = c.loop-i in
    λ us loc e len. onward_end (b.invariant.onward us loc e) (owing_none (owned_by us _ _) _ (b.invariant.onward us loc e) len c.if-at-end.true)

pub loop-i-preserved : goal.loop-i-preserved
loop-i-preserved c = let a = c.args in
    let b = c.loop-i in
    let r = c.put_one-at in record {
      within = omega (arith, r.ensures.1);
      same_length = search rules;
      onward = λ us loc e. onward_step _ _ (b.invariant.onward us loc e) (owing_next us a.q (search rules) a.list.now a.self.now.spots loc b.i (search rules) _ refl) r.ensures.0;
    }

pub returns-clause-puts : goal.returns-clause-puts
returns-clause-puts c = let b = c.loop-i in
    λ us loc e len. onward_end (b.invariant.onward us loc e) (owing_end us _ _ _ c.loop-i-test.false)
