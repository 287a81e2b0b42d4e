-- Those picked of the ids passed are taken; those to come stand as they stood.
use mathlib.Core.Path.{◌≡◌, refl, ◌∙◌}
use native.Mathlib.Nat.{le_refl, le_trans}
use native.Mathlib.Omega.{arith}
use lib.ListN.{length}
use borrow.Author.Rules.{rules}
use Rattle.cols_spec.proofs.Firsts.{take_least}
use Rattle.serve_private_tell.proofs.Sieving.{takes_none, next_passed, share_le}
use Rattle.serve_private_tell.proofs.Hearing.{take_within}
use Rattle.serve_private_tell.proofs.Taken.take_all.Goals as goal

pub loop-i-init : goal.loop-i-init
loop-i-init c = let a = c.args in
    let h = c.requires in record {
      within = (search rules, search rules, omega arith);
      same_length = refl;
      to_come = λ j l. refl;
      takes = rw (h.0, h.1) (takes_none (_) a.k a.self.now.spots a.self.now.shares a.self.now.firsts h.2 h.3);
    }

pub take_one-requires : goal.take_one-requires
take_one-requires c = let b = c.loop-i in
    (omega arith, omega arith, search rules, λ q l. le_trans (share_le b.invariant.takes.housed q l) (take_within b.self.count b.list 64 (omega arith)))

pub loop-i-preserved : goal.loop-i-preserved
loop-i-preserved c = let a = c.args in
    let b = c.loop-i in
    let r = c.take_one.ensures in record {
      within = (search rules, search rules, r.few);
      same_length = r.length ∙ b.invariant.same_length;
      to_come = λ j l. r.rest j (omega arith) ∙ b.invariant.to_come j (omega arith);
      takes = next_passed a.list.now b.i _ (omega arith) (b.invariant.to_come b.i (le_refl b.i)) (r.takes _ b.invariant.takes);
    }

pub returns-clause-takes : goal.returns-clause-takes
returns-clause-takes c = let a = c.args in
    let b = c.loop-i in
    let e : b.i ≡ c.min-m.result = omega arith in
    rw (← take_least a.list.now 64 (length a.list.now) b.i refl (e ∙ c.min-m.ensures)) b.invariant.takes
