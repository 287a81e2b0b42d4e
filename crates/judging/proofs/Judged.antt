-- The judge says that a trace conforms exactly when it does, and the run is the only one. Assumes nothing.
use mathlib.Core.Path.{◌≡◌, refl, sym, ap, ◌∙◌, subst}
use mathlib.Core.List.Perm
use mathlib.Core.List.{List, [], ◌∷◌, nil≢cons, Perm}
use mathlib.Core.Option.{Option, none, some}
use Prim.Native.Nat.{ℕ, suc}
use native.Mathlib.Omega.{arith}
use Rattle.cols_spec.specs.Sets.{null}
use Rattle.domain.specs.Tables.{Domain, fresh, FreeId}
use Rattle.domain.specs.Events.{Outcome}
use Rattle.domain.specs.Good.{Good}
use Rattle.domain.proofs.invariant.Fresh.{fresh_good}
use Rattle.history.specs.Recorded.{Call}
use Rattle.history.specs.Served.{Bytewise}
use Rattle.judging.specs.Traces.{Packet, Frame, came, went, first_records, groups, EventsBytewise}
use Rattle.judging.specs.Conforming.{demanded, due, RightGroup, Runs, outcome, outcomes}
use Rattle.judging.specs.Judge.{conforms, fault, strike, next_id, chosen, struck, judge_from, judge}
use Rattle.judging.specs.Claims.{JudgedExactly, OnlyRun}
use Rattle.judging.proofs.Matching.{fewer, more, astray}
use Rattle.judging.proofs.Forcing.{chosen_free, good_after, forced}

-- frames that conform from tables d on, where the records `left` are still demanded
abbrev pub From : Domain → List Packet → List Frame → Type 0
From d left fs = Perm (first_records fs) left × Runs d (groups fs)

-- what the judge steps to
abbrev pub judged_step : Domain → Call → List Frame → Outcome
judged_step d c fs = demanded (chosen d.channels (next_id fs)) d c

-- a fault is no conforming
pub no_fault : {n : ℕ} → fault n ≡ conforms → ⊥
no_fault e = let z : ◌≡◌ {A = ℕ} 0 1 = cc in omega (arith, z)

-- an event of a run, with what is behind it: both ways
pub event_up : (d : Domain) (c : Call) (fs : List Frame) (new : ℕ) → FreeId d new → From (demanded new d c).domain (due (demanded new d c)) fs → From d [] (came c ∷ fs)
unfolding first_records groups
event_up d c fs new f r = (Perm.refl [], (record { new = new; free = f; sent = r.0 }, r.1))

pub event_down : (d : Domain) (c : Call) → Bytewise c → (fs : List Frame) → From d [] (came c ∷ fs) → From (judged_step d c fs).domain (due (judged_step d c fs)) fs
unfolding first_records groups
event_down d c y fs x =
    let t : RightGroup d (record { call = c; sent = first_records fs }) = x.1.0 in
    subst (λ (o : Outcome). From o.domain (due o) fs) (forced d c y t.new t.free fs t.sent) (t.sent, x.1.1)

-- ---- what the judge takes conforms
sound : (fs : List Frame) (d : Domain) → Good d → (left : List Packet) (at n : ℕ) → EventsBytewise fs → judge_from d left at n fs ≡ conforms → From d left fs
unfolding judge_from null first_records groups
sound [] d g [] at n y e = (Perm.refl [], tt)
sound [] d g (s ∷ ss) at n y e = absurd (no_fault e)
sound (came c ∷ fs) d g [] at n y e =
    let f = chosen_free d g (next_id fs) in
    event_up d c fs (chosen d.channels (next_id fs)) f (sound fs (judged_step d c fs).domain (good_after d g c y.0 _ f) (due (judged_step d c fs)) n (suc n) y.1 e)
sound (came c ∷ fs) d g (s ∷ ss) at n y e = absurd (no_fault e)
sound (went r ∷ fs) d g left at n y e = go (strike r left) refl (λ ss. sound fs d g ss at (suc n) y) e
  where
    go : (x : Option (List Packet)) → strike r left ≡ x → ((ss : List Packet) → judge_from d ss at (suc n) fs ≡ conforms → From d ss fs)
        → struck x n (λ ss. judge_from d ss at (suc n) fs) ≡ conforms → Perm (r ∷ first_records fs) left × Runs d (groups fs)
    go none h f e = absurd (no_fault e)
    go (some ss) h f e = let q = f ss e in (more r (first_records fs) left ss h q.0, q.1)

-- ---- what conforms the judge takes
whole : (fs : List Frame) (d : Domain) → Good d → (left : List Packet) (at n : ℕ) → EventsBytewise fs → From d left fs → judge_from d left at n fs ≡ conforms
unfolding judge_from null first_records groups
whole [] d g [] at n y x = refl
whole [] d g (s ∷ ss) at n y x = absurd (nil≢cons (Perm.nil-eq x.0))
whole (came c ∷ fs) d g [] at n y x =
    whole fs (judged_step d c fs).domain (good_after d g c y.0 _ (chosen_free d g (next_id fs))) (due (judged_step d c fs)) n (suc n) y.1 (event_down d c y.0 fs x)
whole (came c ∷ fs) d g (s ∷ ss) at n y x = absurd (nil≢cons (Perm.nil-eq x.0))
whole (went r ∷ fs) d g left at n y x = go (strike r left) refl (λ ss. whole fs d g ss at (suc n) y)
  where
    go : (z : Option (List Packet)) → strike r left ≡ z → ((ss : List Packet) → From d ss fs → judge_from d ss at (suc n) fs ≡ conforms)
        → struck z n (λ ss. judge_from d ss at (suc n) fs) ≡ conforms
    go none h f = absurd (astray r (first_records fs) left h x.0)
    go (some ss) h f = f ss (fewer r (first_records fs) left ss h x.0, x.1)

-- J1
pub exactly : JudgedExactly
unfolding judge
exactly l fs i y = (
  λ e. let r = sound fs (fresh l) (fresh_good l i) [] 0 0 y e in (Perm.eq-nil r.0, r.1),
  λ x. whole fs (fresh l) (fresh_good l i) [] 0 0 y (rw x.0 (Perm.refl []), x.1),
)

-- ---- the run is the only one
same_run : (fs : List Frame) (d : Domain) → Good d → EventsBytewise fs → (a b : Runs d (groups fs)) → outcomes d (groups fs) a ≡ outcomes d (groups fs) b
unfolding groups outcomes
same_run [] d g y a b = refl
same_run (went r ∷ fs) d g y a b = same_run fs d g y a b
same_run (came c ∷ fs) d g y a b =
    go (forced d c y.0 a.0.new a.0.free fs a.0.sent ∙ sym (forced d c y.0 b.0.new b.0.free fs b.0.sent))
    (λ q. same_run fs (outcome a.0).domain (good_after d g c y.0 a.0.new a.0.free) y.1 a.1 q)
  where
    go : outcome a.0 ≡ outcome b.0
        → ((q : Runs (outcome a.0).domain (groups fs)) → outcomes (outcome a.0).domain (groups fs) a.1 ≡ outcomes (outcome a.0).domain (groups fs) q)
        → outcome a.0 ∷ outcomes (outcome a.0).domain (groups fs) a.1 ≡ outcome b.0 ∷ outcomes (outcome b.0).domain (groups fs) b.1
    go e f =
        subst (λ (o : Outcome). (q : Runs o.domain (groups fs)) → outcome a.0 ∷ outcomes (outcome a.0).domain (groups fs) a.1 ≡ o ∷ outcomes o.domain (groups fs) q)
        e (λ q. ap (λ (os : List Outcome). outcome a.0 ∷ os) (f q)) b.1

-- J4
pub only : OnlyRun
only l fs i y a b = same_run fs (fresh l) (fresh_good l i) y a.1 b.1
