-- One run into a long room; into a short one a run with no room lent, and a second where the records fit. Then there is room for all of it, or there is not.
use mathlib.Core.Path.{refl, sym, ◌∙◌}
use native.Mathlib.Nat.{zero-add}
use native.Mathlib.Omega.{arith}
use borrow.Author.Rules.{rules}
use Rattle.out_records.proofs.Saying.{run_size, say_start, say_turn}
use Rattle.domain.specs.Channels.{own}
use Rattle.domain.proofs.Effects.{delivers_full, delivers_done}
use Rattle.serve_private_tell.specs.Sieve.{says}
use Rattle.serve_private_tell.proofs.Hearing.{own_within}
use Rattle.serve_private_tell.proofs.Taken.tell.Goals as goal

pub loop-again-init : goal.loop-again-init
loop-again-init c =
    let a = c.args in record {
      within = c.tried-to.ensures.0;
      same_length = refl;
      saying = λ us h. say_start 2208 a.out.now _ c.tried-to.result c.tried-to.ensures (own_within us a.list.now a.s (search rules));
    }

pub loop-again-preserved : goal.loop-again-preserved
loop-again-preserved c =
    let w = c.loop-again in record {
      within = omega arith;
      same_length = run_size c.tell_all-total.new.out w.out w.to w.invariant.within c.tell_all-total.auto.out ∙ w.invariant.same_length;
      saying = λ us h. say_turn _ _ _ _ (w.invariant.saying us h) c.loop-again-test.true (c.tell_all-total.ensures.puts us h);
    }

pub returns-then-room-total : goal.returns-then-room-total
returns-then-room-total c =
    let a = c.args in λ us h.
    let said = (c.loop-again.invariant.saying us h).said c.loop-again-test.false in
    rw (said.unsaid c.if-room-total.true) (delivers_full 0 tt tt (own us a.list.now (says a.s)) a.out.now _ (said.size ∙ sym (zero-add _)) c.if-room-total.true)

pub returns : goal.returns
returns c =
    let a = c.args in λ us h.
    let said = (c.loop-again.invariant.saying us h).said c.loop-again-test.false in
    delivers_done 0 tt tt (own us a.list.now (says a.s)) a.out.now _ (said.size ∙ sym (zero-add _)) c.if-room-total.false _ _ _ refl (said.put c.if-room-total.false)
