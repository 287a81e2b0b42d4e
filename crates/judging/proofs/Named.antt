-- A frame at fault is the one that the judge names: so there is one at most, and the judge's answer is exactly it. Assumes nothing.
use mathlib.Core.Path.{◌≡◌, refl, sym, ap, ◌∙◌}
use mathlib.Core.List.Perm
use mathlib.Core.List.{List, [], ◌∷◌, ◌++◌, map, nil≢cons, append-nil, append_assoc}
use mathlib.Core.Option.{Option, none, some}
use Prim.Native.Nat.{ℕ, suc, ◌+◌}
use native.Mathlib.Omega.{arith}
use lib.ListN.{length}
use Rattle.cols_spec.specs.Sets.{null}
use Rattle.domain.specs.Tables.{Domain, fresh}
use Rattle.domain.specs.Good.{Good}
use Rattle.domain.proofs.invariant.Fresh.{fresh_good}
use Rattle.history.specs.Recorded.{Call}
use Rattle.judging.specs.Traces.{Packet, on, Frame, came, went, first_records, groups, EventsBytewise}
use Rattle.judging.specs.Conforming.{due, Conforms}
use Rattle.judging.specs.Judge.{fault, strike, next_id, chosen, struck, judge_from, judge}
use Rattle.judging.specs.Claims.{GroupEnds, AtFault, a_record, an_event, FaultExactly}
use Rattle.judging.proofs.Matching.{fewer, more, astray}
use Rattle.judging.proofs.Forcing.{chosen_free, good_after}
use Rattle.judging.proofs.Judged.{From, judged_step, event_up, event_down}
use Rattle.judging.proofs.Faults.{all_left, next_id_split, from_conforms, conforms_from, fresh_faults}

-- frames begin some that conform
abbrev Begins : Domain → List Packet → List Frame → Type 0
Begins d left fs = (rest : List Frame) × From d left (fs ++ rest)

-- the same, one record or one event on. Where nothing is behind the event, all that is demanded can follow
record_on : (d : Domain) (left : List Packet) (r : Packet) (fs : List Frame) (ss : List Packet) → strike r left ≡ some ss → Begins d left (went r ∷ fs) → Begins d ss fs
unfolding first_records groups
record_on d left r fs ss h b = (b.0, (fewer r (first_records (fs ++ b.0)) left ss h b.1.0, b.1.1))

event_on : (d : Domain) (c : Call) (before : List Frame) (x : Frame) (after : List Frame) → EventsBytewise (came c ∷ (before ++ (x ∷ after)))
    → Begins d [] (came c ∷ before) → let o = judged_step d c (before ++ (x ∷ after)) in Begins o.domain (due o) before
event_on d c [] x after y b = let o = judged_step d c (x ∷ after) in (map went (due o), all_left o.domain (due o))
event_on d c (z ∷ before) x after y b = (b.0, rw (next_id_split [] z (before ++ b.0) (before ++ (x ∷ after))) at (event_down d c y.0 (z ∷ (before ++ b.0)) b.1))

-- an event that comes while records are still demanded begins nothing
untimely : (d : Domain) (s : Packet) (ss : List Packet) (c : Call) (fs : List Frame) → From d (s ∷ ss) (came c ∷ fs) → ⊥
unfolding first_records
untimely d s ss c fs x = nil≢cons (Perm.nil-eq x.0)

-- ---- a record
-- one that fits nothing is named, wherever it stands
wrong_named : (before : List Frame) (r : Packet) (after : List Frame) (d : Domain) → Good d → (left : List Packet) (at n : ℕ) → EventsBytewise (before ++ (went r ∷ after))
    → Begins d left before → ((rest : List Frame) → From d left (before ++ (went r ∷ rest)) → ⊥) → judge_from d left at n (before ++ (went r ∷ after)) ≡ fault (n + length before)
unfolding judge_from null first_records groups
wrong_named [] r after d g left at n y b f = go (strike r left) refl
  where
    go : (x : Option (List Packet)) → strike r left ≡ x → struck x n (λ ss. judge_from d ss at (suc n) after) ≡ fault (n + 0)
    go none h = ap fault (omega arith)
    go (some ss) h = let a = all_left d ss in absurd (f (map went ss) (more r (first_records (map went ss)) left ss h a.0, a.1))
wrong_named (went q ∷ before) r after d g left at n y b f = go (strike q left) refl (λ ss. wrong_named before r after d g ss at (suc n) y)
  where
    go : (x : Option (List Packet)) → strike q left ≡ x
        → ((ss : List Packet) → Begins d ss before → ((rest : List Frame) → From d ss (before ++ (went r ∷ rest)) → ⊥) → judge_from d ss at (suc n) (before ++ (went r ∷ after)) ≡ fault (suc n + length before))
        → struck x n (λ ss. judge_from d ss at (suc n) (before ++ (went r ∷ after))) ≡ fault (n + suc (length before))
    go none h k = absurd (astray q (first_records (before ++ b.0)) left h b.1.0)
    go (some ss) h k =
        k ss (record_on d left q before ss h b) (λ rest x. f rest (more q (first_records (before ++ (went r ∷ rest))) left ss h x.0, x.1)) ∙ ap fault (omega arith)
wrong_named (came c ∷ before) r after d g (s ∷ ss) at n y b f = absurd (untimely d s ss c (before ++ b.0) b.1)
wrong_named (came c ∷ before) r after d g [] at n y b f =
    let fs : List Frame = before ++ (went r ∷ after) in
    let u = chosen_free d g (next_id fs) in
    wrong_named before r after (judged_step d c fs).domain (good_after d g c y.0 _ u) (due (judged_step d c fs)) n (suc n) y.1 (event_on d c before (went r) after y b)
    (λ rest x. f rest (event_up d c (before ++ (went r ∷ rest)) (chosen d.channels (next_id fs)) u x))
    ∙ ap fault (omega arith)

-- ---- an event

-- of the event at hand some records are left
lacks_named : (rs : List Packet) (after : List Frame) (d : Domain) (left : List Packet) (at n : ℕ) → GroupEnds after → Begins d left (map went rs) → (From d left (map went rs) → ⊥)
    → judge_from d left at n (map went rs ++ after) ≡ fault at
unfolding judge_from null first_records groups
lacks_named [] [] d [] at n h b f = absurd (f (Perm.refl [], tt))
lacks_named [] (came c ∷ after) d [] at n h b f = absurd (f (Perm.refl [], tt))
lacks_named [] (went r ∷ after) d [] at n h b f = absurd h
lacks_named [] [] d (s ∷ ss) at n h b f = refl
lacks_named [] (came c ∷ after) d (s ∷ ss) at n h b f = refl
lacks_named [] (went r ∷ after) d (s ∷ ss) at n h b f = absurd h
lacks_named (r ∷ rs) after d left at n h b f = go (strike r left) refl (λ ss. lacks_named rs after d ss at (suc n) h)
  where
    go : (x : Option (List Packet)) → strike r left ≡ x
        → ((ss : List Packet) → Begins d ss (map went rs) → (From d ss (map went rs) → ⊥) → judge_from d ss at (suc n) (map went rs ++ after) ≡ fault at)
        → struck x n (λ ss. judge_from d ss at (suc n) (map went rs ++ after)) ≡ fault at
    go none e k = absurd (astray r (first_records (map went rs ++ b.0)) left e b.1.0)
    go (some ss) e k = k ss (record_on d left r (map went rs) ss e b) (λ x. f (more r (first_records (map went rs)) left ss e x.0, x.1))

-- frames that go on with x name the same id, whatever is behind it
next_id_begun : (before : List Frame) (x : Frame) (es gs rest : List Frame) → next_id ((before ++ (x ∷ es)) ++ rest) ≡ next_id (before ++ (x ∷ gs))
unfolding next_id
next_id_begun [] (came c) es gs rest = refl
next_id_begun [] (went (on q os)) es gs rest = refl
next_id_begun (came c ∷ before) x es gs rest = refl
next_id_begun (went (on q os) ∷ before) x es gs rest = refl

-- behind the event itself: where no record is there all that is demanded can follow
group_on : (d : Domain) (c : Call) (rs : List Packet) (after : List Frame) → EventsBytewise (came c ∷ (map went rs ++ after))
    → Begins d [] (came c ∷ map went rs) → let o = judged_step d c (map went rs ++ after) in Begins o.domain (due o) (map went rs)
group_on d c [] after y b = let o = judged_step d c after in (map went (due o), all_left o.domain (due o))
group_on d c (r ∷ rs) after y b =
    (b.0, rw (next_id_split [] (went r) (map went rs ++ b.0) (map went rs ++ after)) at (event_down d c y.0 (went r ∷ (map went rs ++ b.0)) b.1))

-- an event whose records are not all there is named, wherever it stands
missing_named : (before : List Frame) (c : Call) (rs : List Packet) (after : List Frame) (d : Domain) → Good d → (left : List Packet) (at n : ℕ)
    → EventsBytewise (before ++ (came c ∷ (map went rs ++ after))) → GroupEnds after → Begins d left (before ++ (came c ∷ map went rs))
    → (From d left (before ++ (came c ∷ map went rs)) → ⊥) → judge_from d left at n (before ++ (came c ∷ (map went rs ++ after))) ≡ fault (n + length before)
unfolding judge_from null first_records groups
missing_named [] c rs after d g (s ∷ ss) at n y h b f = absurd (untimely d s ss c (map went rs ++ b.0) b.1)
missing_named [] c rs after d g [] at n y h b f =
    let fs : List Frame = map went rs ++ after in
    lacks_named rs after (judged_step d c fs).domain (due (judged_step d c fs)) n (suc n) h (group_on d c rs after y b)
    (λ x. f (event_up d c (map went rs) (chosen d.channels (next_id fs)) (chosen_free d g (next_id fs)) x))
    ∙ ap fault (omega arith)
missing_named (went q ∷ before) c rs after d g left at n y h b f = go (strike q left) refl (λ ss. missing_named before c rs after d g ss at (suc n) y h)
  where
    go : (x : Option (List Packet)) → strike q left ≡ x
        → ((ss : List Packet) → Begins d ss (before ++ (came c ∷ map went rs)) → (From d ss (before ++ (came c ∷ map went rs)) → ⊥)
        → judge_from d ss at (suc n) (before ++ (came c ∷ (map went rs ++ after))) ≡ fault (suc n + length before))
        → struck x n (λ ss. judge_from d ss at (suc n) (before ++ (came c ∷ (map went rs ++ after)))) ≡ fault (n + suc (length before))
    go none e k = absurd (astray q (first_records ((before ++ (came c ∷ map went rs)) ++ b.0)) left e b.1.0)
    go (some ss) e k =
        k ss (record_on d left q (before ++ (came c ∷ map went rs)) ss e b) (λ x. f (more q (first_records (before ++ (came c ∷ map went rs))) left ss e x.0, x.1))
        ∙ ap fault (omega arith)
missing_named (came e ∷ before) c rs after d g (s ∷ ss) at n y h b f = absurd (untimely d s ss e ((before ++ (came c ∷ map went rs)) ++ b.0) b.1)
missing_named (came e ∷ before) c rs after d g [] at n y h b f =
    let fs : List Frame = before ++ (came c ∷ (map went rs ++ after)) in
    let u = chosen_free d g (next_id fs) in
    let on : Begins (judged_step d e fs).domain (due (judged_step d e fs)) (before ++ (came c ∷ map went rs)) =
    (b.0, rw (next_id_begun before (came c) (map went rs) (map went rs ++ after) b.0) at (event_down d e y.0 ((before ++ (came c ∷ map went rs)) ++ b.0) b.1)) in
    missing_named before c rs after (judged_step d e fs).domain (good_after d g e y.0 _ u) (due (judged_step d e fs)) n (suc n) y.1 h on
    (λ x. f (event_up d e (before ++ (came c ∷ map went rs)) (chosen d.channels (next_id fs)) u x))
    ∙ ap fault (omega arith)

-- ---- J3
-- records behind records
map_went : (rs ps : List Packet) → map went (rs ++ ps) ≡ map went rs ++ map went ps
map_went [] ps = refl
map_went (r ∷ rs) ps = ap (λ (fs : List Frame). went r ∷ fs) (map_went rs ps)

behind_all : (before : List Frame) (x : Frame) (es gs : List Frame) → before ++ (x ∷ (es ++ gs)) ≡ (before ++ (x ∷ es)) ++ gs
behind_all before x es gs = sym (append_assoc before (x ∷ es) gs)

-- both ways
pub frame_exactly : FaultExactly
unfolding judge
frame_exactly l fs n i y = (λ e. fresh_faults l fs (fresh_good l i) n y e, go)
  where
    go : AtFault (Conforms l) fs n → judge_from (fresh l) [] 0 0 fs ≡ fault n
    go (a_record w) =
        rw w.here (wrong_named w.before w.it w.after (fresh l) (fresh_good l i) [] 0 0 (rw w.here at y) (w.so_far.0, from_conforms l (w.before ++ w.so_far.0) w.so_far.1)
        (λ rest x. w.no_further rest (conforms_from l (w.before ++ (went w.it ∷ rest)) x))
        ∙ ap fault (omega (arith, w.number)))
    go (an_event w) =
        rw w.here (missing_named w.before w.call w.sent w.after (fresh l) (fresh_good l i) [] 0 0 (rw w.here at y) w.next (
          map went (w.one ∷ w.more),
          rw (map_went w.sent (w.one ∷ w.more), behind_all w.before (came w.call) (map went w.sent) (map went (w.one ∷ w.more))) at
              (from_conforms l (w.before ++ (came w.call ∷ map went (w.sent ++ (w.one ∷ w.more)))) w.with_more),
        )
        (λ x. w.no_less [] tt (rw append-nil (conforms_from l (w.before ++ (came w.call ∷ map went w.sent)) x)))
        ∙ ap fault (omega (arith, w.number)))
