-- A trace of our own bridge conforms. Assumes nothing.
use mathlib.Core.Path.{◌≡◌, refl, ap, subst}
use mathlib.Core.List.Perm
use mathlib.Core.List.{List, [], ◌∷◌, ◌++◌, map, append-nil}
use Prim.Native.Nat.{ℕ}
use Rattle.out_records.specs.Records.{Sent}
use Rattle.domain.specs.Tables.{Domain, fresh, grant}
use Rattle.domain.specs.Events.{Outcome, step}
use Rattle.domain.specs.Good.{Good}
use Rattle.domain.proofs.invariant.Fresh.{fresh_good}
use Rattle.domain.proofs.invariant.Invariant.{grant_free, good_next}
use Rattle.history.specs.Recorded.{Call}
use Rattle.history.specs.Served.{event}
use Rattle.history.proofs.AsHeard.{event_formed}
use Rattle.judging.specs.Traces.{Packet, Frame, went, first_records, groups}
use Rattle.judging.specs.Conforming.{shown, due}
use Rattle.judging.specs.Claims.{our_trace, Roomy, OwnConforms}
use Rattle.judging.proofs.Forcing.{own_demanded}
use Rattle.judging.proofs.Judged.{From, event_up}

-- records in front of frames
first_of : (rs : List Sent) (fs : List Frame) → first_records (map (λ s. went (shown s)) rs ++ fs) ≡ map shown rs ++ first_records fs
unfolding first_records
first_of [] fs = refl
first_of (r ∷ rs) fs = ap (λ (ps : List Packet). shown r ∷ ps) (first_of rs fs)

-- they are in no group of those frames
groups_of : (rs : List Sent) (fs : List Frame) → groups (map (λ s. went (shown s)) rs ++ fs) ≡ groups fs
unfolding groups
groups_of [] fs = refl
groups_of (r ∷ rs) fs = groups_of rs fs

-- all the records of an outcome, and then frames that conform
all_sent : (o : Outcome) (fs : List Frame) → From o.domain [] fs → From o.domain (due o) (map (λ s. went (shown s)) o.sent ++ fs)
unfolding due
all_sent o fs x =
    (rw (first_of o.sent fs, Perm.eq-nil x.0, append-nil) (Perm.refl (map shown o.sent)), rw (groups_of o.sent fs) x.1)

-- a run of our own machine
own_from : (ts : List (Call × ℕ)) (d : Domain) → Good d → Roomy d ts → From d [] (our_trace d ts)
unfolding our_trace first_records groups
own_from [] d g r = (Perm.refl [], tt)
own_from (t ∷ ts) d g r =
    let o : Outcome = step d (event t.0) t.1 in
    let next : Good o.domain = good_next d g (event t.0) t.1 (event_formed t.0 r.0) in
    let fs : List Frame = map (λ s. went (shown s)) o.sent ++ our_trace o.domain ts in
    event_up d t.0 fs (grant d.channels) (grant_free d g)
    (subst (λ (q : Outcome). From q.domain (due q) fs) (own_demanded d g t.0 r.0 t.1 r.1) (all_sent o (our_trace o.domain ts) (own_from ts o.domain next r.2)))

-- J2
pub ours : OwnConforms
ours l ts i r = let x = own_from ts (fresh l) (fresh_good l i) r in (Perm.eq-nil x.0, x.1)
