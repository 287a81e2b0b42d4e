-- The frame that the judge names is at fault: a record that fits no demanded one that is left, or an event whose records are not all there. Assumes nothing.
use mathlib.Core.Path.{◌≡◌, refl, sym, ap, ◌∙◌}
use mathlib.Core.List.Perm
use mathlib.Core.List.{List, [], ◌∷◌, ◌++◌, map, nil≢cons, Perm}
use mathlib.Core.Option.{Option, none, some}
use Prim.Native.Nat.{ℕ, suc, ◌+◌}
use native.Mathlib.Omega.{arith}
use Rattle.cols_spec.specs.Sets.{null}
use Rattle.domain.specs.declared.Limits.{Limits}
use Rattle.domain.specs.Tables.{Domain, fresh, FreeId}
use Rattle.domain.specs.Events.{Outcome}
use Rattle.domain.specs.Good.{Good}
use Rattle.judging.specs.Traces.{Packet, on, Frame, came, went, first_records, groups, EventsBytewise}
use Rattle.judging.specs.Conforming.{due, Conforms}
use Rattle.judging.specs.Judge.{fault, strike, next_id, chosen, struck, judge_from}
use Rattle.judging.specs.Claims.{GroupEnds, Wrong, Missing, AtFault, a_record, an_event}
use Rattle.judging.proofs.Matching.{fewer, more, astray}
use Rattle.judging.proofs.Forcing.{chosen_free, good_after}
use Rattle.judging.proofs.Judged.{From, judged_step, no_fault, event_up, event_down}

-- ---- records alone, and the id that is named by what comes first

-- records alone: they are the first, and there is no group
first_of_records : (rs : List Packet) → first_records (map went rs) ≡ rs
unfolding first_records
first_of_records [] = refl
first_of_records (r ∷ rs) = ap (λ (ps : List Packet). r ∷ ps) (first_of_records rs)

groups_records : (rs : List Packet) → groups (map went rs) ≡ []
unfolding groups
groups_records [] = refl
groups_records (r ∷ rs) = groups_records rs

-- all that is left conforms
pub all_left : (d : Domain) (left : List Packet) → From d left (map went left)
all_left d left = (rw first_of_records (Perm.refl left), rw groups_records tt)

-- nothing more is sent where the next event comes
next_first : (fs : List Frame) → GroupEnds fs → first_records fs ≡ []
unfolding first_records
next_first [] h = refl
next_first (came c ∷ fs) h = refl
next_first (went r ∷ fs) h = absurd h

-- there no id is named
next_id_none : (fs : List Frame) → GroupEnds fs → next_id fs ≡ 0
unfolding next_id
next_id_none [] h = refl
next_id_none (came c ∷ fs) h = refl
next_id_none (went r ∷ fs) h = absurd h

-- the id is named by the first frame, whatever is behind it
pub next_id_split : (before : List Frame) (x : Frame) (es gs : List Frame) → next_id (before ++ (x ∷ es)) ≡ next_id (before ++ (x ∷ gs))
unfolding next_id
next_id_split [] (came c) es gs = refl
next_id_split [] (went (on q os)) es gs = refl
next_id_split (came c ∷ before) x es gs = refl
next_id_split (went (on q os) ∷ before) x es gs = refl

-- behind a group both name none, or the same
next_id_group : (rs : List Packet) (es gs : List Frame) → GroupEnds es → GroupEnds gs → next_id (map went rs ++ es) ≡ next_id (map went rs ++ gs)
unfolding next_id
next_id_group [] es gs h k = next_id_none es h ∙ sym (next_id_none gs k)
next_id_group (on q os ∷ rs) es gs h k = refl

-- ---- a fault behind one more frame
module _ {P Q : (List Frame → Type 0)} (x : Frame) (fs : List Frame) (up : (gs : List Frame) → Q gs → P (x ∷ gs)) (down : (gs : List Frame) → next_id gs ≡ next_id fs → P (x ∷ gs) → Q gs) where
  -- a wrong record
  wrong_up : {i : ℕ} → Wrong Q fs i → Wrong P (x ∷ fs) (suc i)
  wrong_up w =
      record {
        before = x ∷ w.before;
        it = w.it;
        after = w.after;
        here = ap (λ (gs : List Frame). x ∷ gs) w.here;
        number = ap suc w.number;
        so_far = (w.so_far.0, up _ w.so_far.1);
        no_further = λ rest p. w.no_further rest (down _ (next_id_split w.before (went w.it) rest w.after ∙ ap next_id (sym w.here)) p);
      }

  -- an event whose records are not all there
  missing_up : {i : ℕ} → Missing Q fs i → Missing P (x ∷ fs) (suc i)
  missing_up w =
      record {
        before = x ∷ w.before;
        call = w.call;
        sent = w.sent;
        after = w.after;
        here = ap (λ (gs : List Frame). x ∷ gs) w.here;
        number = ap suc w.number;
        next = w.next;
        one = w.one;
        more = w.more;
        with_more = up _ w.with_more;
        no_less = λ rest h p. w.no_less rest h (down _ (next_id_split w.before (came w.call) _ _ ∙ ap next_id (sym w.here)) p);
      }

-- the event at hand lacks records
record Lacks (d : Domain) (left : List Packet) (fs : List Frame) : Type 0 where
  sent : List Packet
  after : List Frame
  here : fs ≡ map went sent ++ after
  next : GroupEnds after
  one : Packet
  more : List Packet
  with_more : From d left (map went (sent ++ (one ∷ more)))
  no_less : (rest : List Frame) → GroupEnds rest → From d left (map went sent ++ rest) → ⊥

-- frame k is at fault: the event at hand, frame `at`, or one of the frames from n on
data Faults (d : Domain) (left : List Packet) (at n : ℕ) (fs : List Frame) (k : ℕ) : Type 0 where
  lacks : k ≡ at → Lacks d left fs → Faults d left at n fs k
  wrongs : (i : ℕ) → k ≡ n + i → Wrong (From d left) fs i → Faults d left at n fs k
  misses : (i : ℕ) → k ≡ n + i → Missing (From d left) fs i → Faults d left at n fs k

-- left over at the next event or the end
left_over : (d : Domain) (s : Packet) (ss : List Packet) (fs : List Frame) → GroupEnds fs → Lacks d (s ∷ ss) fs
left_over d s ss fs h =
    record {
      sent = [];
      after = fs;
      here = refl;
      next = h;
      one = s;
      more = ss;
      with_more = all_left d (s ∷ ss);
      no_less = λ rest k x. nil≢cons (Perm.nil-eq (rw (next_first rest k) at x.0));
    }

same_fault : {n k : ℕ} → fault n ≡ fault k → k ≡ n
same_fault e = cc

-- the frame named is at fault
faults : (fs : List Frame) (d : Domain) → Good d → (left : List Packet) (at n k : ℕ) → EventsBytewise fs → judge_from d left at n fs ≡ fault k → Faults d left at n fs k
unfolding judge_from null first_records groups
faults [] d g [] at n k y e = absurd (no_fault (sym e))
faults [] d g (s ∷ ss) at n k y e = lacks (same_fault e) (left_over d s ss [] tt)
faults (came c ∷ fs) d g (s ∷ ss) at n k y e = lacks (same_fault e) (left_over d s ss (came c ∷ fs) tt)
faults (came c ∷ fs) d g [] at n k y e =
    go (faults fs (judged_step d c fs).domain (good_after d g c y.0 _ f) (due (judged_step d c fs)) n (suc n) k y.1 e)
  where
    f : FreeId d (chosen d.channels (next_id fs))
    f = chosen_free d g (next_id fs)

    o : Outcome
    o = judged_step d c fs

    up : (gs : List Frame) → From o.domain (due o) gs → From d [] (came c ∷ gs)
    up gs x = event_up d c gs (chosen d.channels (next_id fs)) f x

    down : (gs : List Frame) → next_id gs ≡ next_id fs → From d [] (came c ∷ gs) → From o.domain (due o) gs
    down gs h x = rw h at (event_down d c y.0 gs x)

    go : Faults o.domain (due o) n (suc n) fs k → Faults d [] at n (came c ∷ fs) k
    go (lacks h w) =
        misses 0 (omega arith) (
        record {
          before = [];
          call = c;
          sent = w.sent;
          after = w.after;
          here = ap (λ (gs : List Frame). came c ∷ gs) w.here;
          number = refl;
          next = w.next;
          one = w.one;
          more = w.more;
          with_more = up (map went (w.sent ++ (w.one ∷ w.more))) w.with_more;
          no_less = λ rest h x. w.no_less rest h (down (map went w.sent ++ rest) (next_id_group w.sent rest w.after h w.next ∙ ap next_id (sym w.here)) x);
        }
        )
    go (wrongs i h w) = wrongs (suc i) (omega arith) (wrong_up (came c) fs up down w)
    go (misses i h w) = misses (suc i) (omega arith) (missing_up (came c) fs up down w)
faults (went r ∷ fs) d g left at n k y e = start (strike r left) refl (λ ss. faults fs d g ss at (suc n) k y) e
  where
    one_up : (ss : List Packet) → strike r left ≡ some ss → (gs : List Frame) → From d ss gs → From d left (went r ∷ gs)
    one_up ss h gs x = (more r (first_records gs) left ss h x.0, x.1)

    one_down : (ss : List Packet) → strike r left ≡ some ss → (gs : List Frame) → next_id gs ≡ next_id fs → From d left (went r ∷ gs) → From d ss gs
    one_down ss h gs q x = (fewer r (first_records gs) left ss h x.0, x.1)

    go : (ss : List Packet) → strike r left ≡ some ss → Faults d ss at (suc n) fs k → Faults d left at n (went r ∷ fs) k
    go ss h (lacks q w) =
        lacks q (
        record {
          sent = r ∷ w.sent;
          after = w.after;
          here = ap (λ (gs : List Frame). went r ∷ gs) w.here;
          next = w.next;
          one = w.one;
          more = w.more;
          with_more = one_up ss h (map went (w.sent ++ (w.one ∷ w.more))) w.with_more;
          no_less = λ rest nx x. w.no_less rest nx (fewer r (first_records (map went w.sent ++ rest)) left ss h x.0, x.1);
        }
        )
    go ss h (wrongs i q w) = wrongs (suc i) (omega arith) (wrong_up (went r) fs (one_up ss h) (one_down ss h) w)
    go ss h (misses i q w) = misses (suc i) (omega arith) (missing_up (went r) fs (one_up ss h) (one_down ss h) w)

    start : (x : Option (List Packet)) → strike r left ≡ x → ((ss : List Packet) → judge_from d ss at (suc n) fs ≡ fault k → Faults d ss at (suc n) fs k)
        → struck x n (λ ss. judge_from d ss at (suc n) fs) ≡ fault k → Faults d left at n (went r ∷ fs) k
    start none h f e =
        wrongs 0 (omega (arith, same_fault e)) (
        record {
          before = [];
          it = r;
          after = fs;
          here = refl;
          number = refl;
          so_far = (map went left, all_left d left);
          no_further = λ rest x. astray r (first_records rest) left h x.0;
        }
        )
    start (some ss) h f e = go ss h (f ss e)

-- ---- from a fresh domain
module _ (l : Limits) where
  -- conforming is conforming from a fresh domain with nothing demanded
  pub from_conforms : (fs : List Frame) → Conforms l fs → From (fresh l) [] fs
  from_conforms fs x = (rw x.0 (Perm.refl []), x.1)

  pub conforms_from : (fs : List Frame) → From (fresh l) [] fs → Conforms l fs
  conforms_from fs x = (Perm.eq-nil x.0, x.1)

  -- the faults, said of traces from the start
  wrong_fresh : (fs : List Frame) (n : ℕ) → Wrong (From (fresh l) []) fs n → Wrong (Conforms l) fs n
  wrong_fresh fs n w =
      record {
        before = w.before;
        it = w.it;
        after = w.after;
        here = w.here;
        number = w.number;
        so_far = (w.so_far.0, conforms_from _ w.so_far.1);
        no_further = λ rest x. w.no_further rest (from_conforms _ x);
      }

  missing_fresh : (fs : List Frame) (n : ℕ) → Missing (From (fresh l) []) fs n → Missing (Conforms l) fs n
  missing_fresh fs n w =
      record {
        before = w.before;
        call = w.call;
        sent = w.sent;
        after = w.after;
        here = w.here;
        number = w.number;
        next = w.next;
        one = w.one;
        more = w.more;
        with_more = conforms_from _ w.with_more;
        no_less = λ rest h x. w.no_less rest h (from_conforms _ x);
      }

  -- before the first event nothing is missing
  nothing_lacks : (fs : List Frame) → Lacks (fresh l) [] fs → ⊥
  nothing_lacks fs w = go w.sent w.with_more.0
    where
      go : (rs : List Packet) → Perm (first_records (map went (rs ++ (w.one ∷ w.more)))) [] → ⊥
      go [] p = nil≢cons (sym (sym (first_of_records (w.one ∷ w.more)) ∙ Perm.eq-nil p))
      go (r ∷ rs) p = nil≢cons (sym (sym (first_of_records (r ∷ (rs ++ (w.one ∷ w.more)))) ∙ Perm.eq-nil p))

  -- J3, one way: the frame named is at fault
  pub fresh_faults : (fs : List Frame) → Good (fresh l) → (n : ℕ) → EventsBytewise fs → judge_from (fresh l) [] 0 0 fs ≡ fault n → AtFault (Conforms l) fs n
  fresh_faults fs g n y e = go (faults fs (fresh l) g [] 0 0 n y e)
    where
      go : Faults (fresh l) [] 0 0 fs n → AtFault (Conforms l) fs n
      go (lacks h w) = absurd (nothing_lacks fs w)
      go (wrongs i h w) = let q : n ≡ i = omega arith in rw q (a_record (wrong_fresh fs i w))
      go (misses i h w) = let q : n ≡ i = omega arith in rw q (an_event (missing_fresh fs i w))
