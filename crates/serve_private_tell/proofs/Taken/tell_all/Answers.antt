use borrow.Author.Rules.{rules}
use native.Mathlib.Omega.{arith}
use Rattle.out_records.proofs.Laying.{onward_step, onward_end}
use Rattle.serve_private_tell.proofs.Hearing.{owning_all, owning_next, owning_end}
use Rattle.serve_private_tell.proofs.Taken.tell_all.Goals as goal

pub loop-q-preserved : goal.loop-q-preserved
loop-q-preserved c =
    let b = c.loop-q in
    let r = c.tell_one-at in record {
      within = omega (arith, r.ensures.few);
      same_length = search rules;
      onward = λ us at. onward_step _ _ (b.invariant.onward us at) (owning_next _ _ _ _ (search rules)) (r.ensures.puts us at);
    }

pub returns-clause-puts : goal.returns-clause-puts
returns-clause-puts c = λ us at. rw (← owning_all us _ _) (onward_end (c.loop-q.invariant.onward us at) (owning_end us _ _ _ c.loop-q-test.false))
