-- The spans of a trace are as document 02 says, and no others are: specs/Claims, V1 and V2. Assumes nothing.
use Prim.Native.Nat.{ℕ, zero, suc, ◌+◌, ◌≤◌, ◌<◌}
use mathlib.Core.Path.{◌≡◌, refl, sym, ap, ◌∙◌}
use mathlib.Core.Logic.{◌⊎◌, inl, inr, ⊎_elim}
use mathlib.Core.Bool.{Bool, true, false}
use mathlib.Core.List.{List, [], ◌∷◌, ◌++◌, append-nil}
use native.Mathlib.Omega.{arith}
use borrow.Author.Tests.{ltb-false, le-ltb}
use lib.ListN.{length, take, drop, length-append, length-drop, take-append-drop}
use lib.Seq.{length-take-le, take_at, drop_at}
use Rattle.trace_frames.specs.Good.{good_size}
use Rattle.trace_frames.proofs.Good.{within, least, alone}
use Rattle.salvage.specs.Spans.{begins, resumes, until, Span, kept, cut, spans, all_octets}
use Rattle.salvage.specs.Claims.{IsFrame, IsCut, Right, AllThere, CutsApart, TwoBetween, KeptGood, CutRight, OnlyThese}
use Rattle.salvage.proofs.SpanLaws.{none_or_some, begins_none, resumes_none, resumes_next, until_here, until_past, until_most, until_some, spans_none, spans_kept, spans_cut}

apart : {A : Type 0} → true ≡ false → A
apart e = absurd (let z : ◌≡◌ {A = ℕ} 0 1 = cc in omega arith)

unbegun : (s : List ℕ) → begins s ≡ false → good_size s ≡ 0
unfolding begins
unbegun s e = omega (arith, ltb-false 0 (good_size s) e)

-- ---- a good frame, whatever stands behind it
module _ {f : List ℕ} (i : IsFrame f) (s : List ℕ) where
  pub frame_size : good_size (f ++ s) ≡ length f
  frame_size =
      ap (λ l. good_size (l ++ s)) (sym (take_at f [] (good_size f) (sym i.good)) ∙ ap (take (good_size f)) (append-nil f))
      ∙ alone f s (omega (arith, i.some, i.good))
      ∙ i.good

  pub spans_frame : spans (f ++ s) ≡ kept f ∷ spans s
  spans_frame =
      spans_kept (f ++ s) (omega (arith, frame_size, i.some))
      ∙ ap (λ n. kept (take n (f ++ s)) ∷ spans (drop n (f ++ s))) frame_size
      ∙ ap (λ l. kept l ∷ spans (drop (length f) (f ++ s))) (take_at f s (length f) refl)
      ∙ ap (λ l. kept f ∷ spans l) (drop_at f s (length f) refl)

pub frame_least : {f : List ℕ} → IsFrame f → 5 ≤ length f
frame_least {f} i = omega (arith, least f (omega (arith, i.some, i.good)), i.good)

-- ---- octets that are passed over: reading resumes nowhere within them
Passed : List ℕ → List ℕ → Type 0
Passed [] rest = Unit {0}
Passed (o ∷ os) rest = (resumes (o ∷ os ++ rest) ≡ false) × Passed os rest

until_passed : (s : List ℕ) → Passed (take (until s) s) (drop (until s) s)
unfolding Passed until
until_passed [] = tt
until_passed (o ∷ s) = go (resumes (o ∷ s)) refl (until_passed s)
  where
    go : (t : Bool) → resumes (o ∷ s) ≡ t → Passed (take (until s) s) (drop (until s) s) → Passed (take (until (o ∷ s)) (o ∷ s)) (drop (until (o ∷ s)) (o ∷ s))
    go true e h = rw (until_here (o ∷ s) e) tt
    go false e h = rw (until_past o s e) (rw (take-append-drop (until s) s) e, h)

until_ends : (s : List ℕ) → (drop (until s) s ≡ []) ⊎ (resumes (drop (until s) s) ≡ true)
unfolding until
until_ends [] = inl refl
until_ends (o ∷ s) = go (resumes (o ∷ s)) refl (until_ends s)
  where
    go : (t : Bool) → resumes (o ∷ s) ≡ t → (drop (until s) s ≡ []) ⊎ (resumes (drop (until s) s) ≡ true)
        → (drop (until (o ∷ s)) (o ∷ s) ≡ []) ⊎ (resumes (drop (until (o ∷ s)) (o ∷ s)) ≡ true)
    go true e h = rw (until_here (o ∷ s) e) (inr e)
    go false e h = rw (until_past o s e) h

until_is : (os rest : List ℕ) → Passed os rest → (rest ≡ []) ⊎ (resumes rest ≡ true) → until (os ++ rest) ≡ length os
unfolding Passed until
until_is [] rest p (inl e) = ap until e
until_is [] rest p (inr e) = until_here rest e
until_is (o ∷ os) rest p h = until_past o (os ++ rest) p.0 ∙ ap suc (until_is os rest p.1 h)

passed_behind : (a b rest : List ℕ) → Passed (a ++ b) rest → 0 < length b → resumes (b ++ rest) ≡ false
unfolding Passed
passed_behind [] [] rest p h = absurd (omega arith)
passed_behind [] (o ∷ b) rest p h = p.0
passed_behind (x ∷ a) b rest p h = passed_behind a b rest p.1 h

behind_passed : (os rest : List ℕ) → ((a b : List ℕ) → os ≡ a ++ b → 0 < length b → resumes (b ++ rest) ≡ false) → Passed os rest
unfolding Passed
behind_passed [] rest f = tt
behind_passed (o ∷ os) rest f = (f [] (o ∷ os) refl (omega arith), behind_passed os rest (λ a b e. f (o ∷ a) b (ap (λ l. o ∷ l) e)))

-- ---- what is cut
cut_is : (s : List ℕ) → 0 < length s → good_size s ≡ 0 → IsCut (take (until s) s) (drop (until s) s)
cut_is s h z =
    record {
      some = omega (arith, length-take-le (until s) s (until_most s), until_some s z h);
      none_begins = rw (take-append-drop (until s) s) (begins_none s z);
      none_resumes = λ a b e l. passed_behind a b (drop (until s) s) (rw e at (until_passed s)) l;
      ends = until_ends s;
    }

-- ---- V1, V2: all spans, by the number of octets
abbrev Sound : List ℕ → Type 0
Sound s = (all_octets (spans s) ≡ s) × Right (spans s)

sound_kept : (s : List ℕ) → 0 < good_size s → Sound (drop (good_size s) s) → Sound s
unfolding all_octets
sound_kept s h i =
    let n = good_size s in
    let l : length (take n s) ≡ n = length-take-le n s (within s) in
    rw (spans_kept s h)
    (ap (λ r. take n s ++ r) i.0 ∙ take-append-drop n s, (record { some = omega arith; good = ap good_size (sym (append-nil (take n s))) ∙ alone s [] h ∙ sym l }, i.1))

sound_cut : (s : List ℕ) → 0 < length s → good_size s ≡ 0 → Sound (drop (until s) s) → Sound s
unfolding all_octets
sound_cut s h z i =
    let n = until s in
    rw (spans_cut s h z)
    (ap (λ r. take n s ++ r) i.0 ∙ take-append-drop n s, (rw i.0 (cut_is s h z), i.1))

sound : (k : ℕ) (s : List ℕ) → length s ≤ k → Sound s
unfolding all_octets
sound zero [] h = rw (spans_none [] refl) (refl, tt)
sound zero (o ∷ s) h = absurd (omega arith)
sound (suc k) [] h = rw (spans_none [] refl) (refl, tt)
sound (suc k) (o ∷ s) h =
    ⊎_elim
    (λ z. sound_cut (o ∷ s) (omega arith) z (sound k (drop (until (o ∷ s)) (o ∷ s)) (omega (arith, length-drop (until (o ∷ s)) (o ∷ s), until_some (o ∷ s) z (omega arith)))))
    (λ g. sound_kept (o ∷ s) g (sound k (drop (good_size (o ∷ s)) (o ∷ s)) (omega (arith, length-drop (good_size (o ∷ s)) (o ∷ s)))))
    (none_or_some (good_size (o ∷ s)))

pub there : AllThere
there s = (sound (length s) s (omega arith)).0

pub right : (s : List ℕ) → Right (spans s)
right s = (sound (length s) s (omega arith)).1

-- ---- any span of them
right_from : (before after : List Span) → Right (before ++ after) → Right after
right_from [] after r = r
right_from (kept f ∷ before) after r = right_from before after r.1
right_from (cut os ∷ before) after r = right_from before after r.1

from : (s : List ℕ) (before after : List Span) → spans s ≡ before ++ after → Right after
from s before after e = right_from before after (rw e at (right s))

pub frames_good : KeptGood
frames_good s before after f e = (from s before (kept f ∷ after) e).0

pub cuts_right : CutRight
cuts_right s before after os e = (from s before (cut os ∷ after) e).0

-- no two cuts touch: behind a cut is the end or a good frame
pub cut_cut : (a b : List ℕ) (xs : List Span) → Right (cut a ∷ cut b ∷ xs) → ⊥
unfolding all_octets
cut_cut a b xs r =
    ⊎_elim
    (λ e. omega (arith, r.1.0.some, length-append b (all_octets xs), ap length e))
    (λ e. apart (sym e ∙ resumes_none (b ++ all_octets xs) (unbegun (b ++ all_octets xs) r.1.0.none_begins)))
    r.0.ends

-- nor does one frame stand alone between two: where reading resumes, another frame or the end follows
pub cut_frame_cut : (a f b : List ℕ) (xs : List Span) → Right (cut a ∷ kept f ∷ cut b ∷ xs) → ⊥
unfolding all_octets
cut_frame_cut a f b xs r =
    let rest = b ++ all_octets xs in
    let n : good_size (f ++ rest) ≡ length f = frame_size r.1.0 rest in
    let l : length (f ++ rest) ≡ length f + length rest = length-append f rest in
    let m : length rest ≡ length b + length (all_octets xs) = length-append b (all_octets xs) in
    let o : good_size (drop (good_size (f ++ rest)) (f ++ rest)) ≡ 0 = ap (λ k. good_size (drop k (f ++ rest))) n ∙ ap good_size (drop_at f rest (length f) refl) ∙ unbegun rest r.1.1.0.none_begins in
    ⊎_elim
    (λ e. omega (arith, r.1.0.some, ap length e))
    (λ e.
    apart
    (sym e
    ∙ resumes_next (f ++ rest) (omega (arith, r.1.0.some)) (λ w. omega (arith, r.1.1.0.some))
    ∙ le-ltb 0 (good_size (drop (good_size (f ++ rest)) (f ++ rest))) (omega arith)))
    r.0.ends

pub touch_none : CutsApart
touch_none s before after a b e = cut_cut a b after (from s before (cut a ∷ cut b ∷ after) e)

pub alone_none : TwoBetween
alone_none s before after a f b e = cut_frame_cut a f b after (from s before (cut a ∷ kept f ∷ cut b ∷ after) e)

-- ---- and no other spans
spans_cut_is : (os rest : List ℕ) → IsCut os rest → spans (os ++ rest) ≡ cut os ∷ spans rest
spans_cut_is os rest i =
    let s = os ++ rest in
    spans_cut s (omega (arith, i.some, length-append os rest)) (unbegun s i.none_begins)
    ∙ ap (λ n. cut (take n s) ∷ spans (drop n s)) (until_is os rest (behind_passed os rest i.none_resumes) i.ends)
    ∙ ap (λ l. cut l ∷ spans (drop (length os) s)) (take_at os rest (length os) refl)
    ∙ ap (λ l. cut os ∷ spans l) (drop_at os rest (length os) refl)

pub only : (xs : List Span) → Right xs → spans (all_octets xs) ≡ xs
unfolding all_octets
only [] r = spans_none [] refl
only (kept f ∷ xs) r = spans_frame r.0 (all_octets xs) ∙ ap (λ l. kept f ∷ l) (only xs r.1)
only (cut os ∷ xs) r = spans_cut_is os (all_octets xs) r.0 ∙ ap (λ l. cut os ∷ l) (only xs r.1)

pub these : OnlyThese
these s xs = (λ r. sym (only xs r.0) ∙ ap spans r.1, λ e. rw e (right s, there s))
