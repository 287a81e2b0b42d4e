-- What the ids above the last one bring is still to come. The ids that the marks or the column bring are all that count.
use mathlib.Core.Path.{refl, sym}
use native.Mathlib.Nat.{sub-zero}
use native.Mathlib.Omega.{arith}
use lib.ListN.{length}
use borrow.Author.Rules.{rules}
use Rattle.out_records.proofs.Laying.{onward_start, onward_step, onward_end}
use Rattle.domain_tables.specs.Held.{users_in, channels_in}
use Rattle.serve_leave_records.specs.Parts.{end_at}
use Rattle.serve_leave_records.proofs.Rounds.{coming_next, coming_end, coming_none}
use Rattle.serve_leave_records.proofs.Least.{is_none, is_some}
use Rattle.serve_leave_records.proofs.Parts.{ends_length}
use Rattle.serve_leave_records.proofs.Quiet.{ends_coming}
use Rattle.serve_leave_records.proofs.put_ends.Goals as goal

pub ids-init : goal.ids-init
ids-init c = let a = c.args in
    let cs = a.channels.now in
    let ms = a.members.now in
    record { few = search rules; laid = rw (sub-zero (length cs.ids), ends_coming (users_in a.users.now) cs.ids cs.kinds cs.managers ms.admitted ms.joined a.gone a.live c.find_ends-e.result.beyond) (onward_start _ _ _) }

pub returns-in_default : goal.returns-in_default
returns-in_default c = let a = c.args in
    let b = c.ids in
    let us = users_in a.users.now in
    let cs = channels_in a.channels.now a.members.now in
    let z = is_none _ (c.in_default.ensures _ c.find_ends-e.ensures) in
    let p = onward_end b.invariant.laid (coming_end (end_at us cs a.gone a.live) _ _ 0 (sym z) _ refl) in
    (p, omega (arith, p.next, ends_length us cs a.gone a.live a.channels.now.ids b.invariant.few))

pub put_ended-at-requires : goal.put_ended-at-requires
put_ended-at-requires c = let a = c.args in
    let us = users_in a.users.now in
    let cs = channels_in a.channels.now a.members.now in
    omega (arith, c.ids.invariant.laid.next, ends_length us cs a.gone a.live a.channels.now.ids c.ids.invariant.few)

pub ids-preserved : goal.ids-preserved
ids-preserved c = let a = c.args in
    let b = c.ids in
    let us = users_in a.users.now in
    let cs = channels_in a.channels.now a.members.now in
    let q = is_some _ _ (c.in-Some.ensures _ c.find_ends-e.ensures) in
    record {
      few = b.invariant.few;
      laid = onward_step _ _ b.invariant.laid (coming_next (end_at us cs a.gone a.live) _ _ c.in-Some.c q.0 _ _ (omega arith) q.1) (rw c.kind_of-k.ensures at c.put_ended-at.ensures);
    }

pub returns : goal.returns
returns c = let a = c.args in
    let b = c.ids in
    let us = users_in a.users.now in
    let cs = channels_in a.channels.now a.members.now in
    let p = onward_end b.invariant.laid (coming_none (end_at us cs a.gone a.live) _ _ _ (omega arith)) in
    (p, omega (arith, p.next, ends_length us cs a.gone a.live a.channels.now.ids b.invariant.few))
