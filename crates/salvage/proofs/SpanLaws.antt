-- The spans of a trace, one after the other. Assumes nothing.
use Prim.Native.Nat.{ℕ, zero, suc, ◌+◌, ◌-◌, ◌≤◌, ◌<◌}
use mathlib.Core.Path.{◌≡◌, refl, sym, ap, ◌∙◌}
use mathlib.Core.Logic.{◌≢◌, ◌⊎◌, inl, inr, ⊎_elim}
use mathlib.Core.Bool.{Bool, true, false, cond}
use mathlib.Core.List.{List, [], ◌∷◌}
use native.Mathlib.Numerals.{add-one}
use native.Mathlib.Omega.{arith}
use borrow.Author.Tests.{lt-ltb, le-ltb, eq-eqb, ne_eqb}
use lib.Dec.{ltb}
use lib.ListN.{length, take, drop, length-drop, drop_of_length-le}
use lib.Seq.{length-take-le, take_all, drop-cons}
use Rattle.trace_frames.specs.Good.{good_size}
use Rattle.trace_frames.proofs.Good.{within}
use Rattle.salvage.specs.Spans.{begins, resumes, until, kept, cut, octets_in, first, spans_in, spans}

pub none_or_some : (n : ℕ) → (n ≡ 0) ⊎ (0 < n)
none_or_some zero = inl refl
none_or_some (suc n) = inr (omega arith)

-- a part of a slice, from a place to its end
pub part_is : (s : List ℕ) (i : ℕ) → take (length s - i) (drop i s) ≡ drop i s
part_is s i = take_all (length s - i) (drop i s) (omega (arith, length-drop i s))

-- ---- where a good frame begins, and where reading resumes
module _ (s : List ℕ) where
  pub begins_some : 0 < good_size s → begins s ≡ true
  unfolding begins
  begins_some h = lt-ltb 0 (good_size s) h

  pub begins_none : good_size s ≡ 0 → begins s ≡ false
  unfolding begins
  begins_none e = le-ltb 0 (good_size s) (omega arith)

  pub resumes_none : good_size s ≡ 0 → resumes s ≡ false
  unfolding resumes
  resumes_none e = simp (begins_none e)

  pub resumes_last : 0 < good_size s → good_size s ≡ length s → resumes s ≡ true
  unfolding resumes
  resumes_last h e = simp (begins_some h, eq-eqb (length (drop (good_size s) s)) 0 (omega (arith, length-drop (good_size s) s)))

  pub resumes_next : 0 < good_size s → good_size s ≢ length s → resumes s ≡ ltb 0 (good_size (drop (good_size s) s))
  unfolding resumes begins
  resumes_next h n =
      simp (
        lt-ltb 0 (good_size s) h,
        ne_eqb (length (drop (good_size s) s)) 0 (λ e. n (omega (arith, within s, length-drop (good_size s) s))),
      )

-- ---- the octets before the place where reading resumes
pub until_here : (s : List ℕ) → resumes s ≡ true → until s ≡ 0
unfolding until
until_here [] e = refl
until_here (o ∷ s) e = simp e

pub until_past : (o : ℕ) (s : List ℕ) → resumes (o ∷ s) ≡ false → until (o ∷ s) ≡ suc (until s)
unfolding until
until_past o s e = simp e

pub until_on : (s : List ℕ) (i : ℕ) → i < length s → resumes (drop i s) ≡ false → until (drop i s) ≡ suc (until (drop (i + 1) s))
until_on s i h e =
    ap until (drop-cons s i 0 h)
    ∙ until_past _ _ (ap resumes (sym (drop-cons s i 0 h)) ∙ e)
    ∙ ap (λ n. suc (until (drop n s))) (sym (add-one i))

pub until_end : (s : List ℕ) (i : ℕ) → length s ≤ i → until (drop i s) ≡ 0
unfolding until
until_end s i h = rw (drop_of_length-le s h)

cond_most : (t : Bool) (n m : ℕ) → n ≤ m → cond t 0 n ≤ m
cond_most true n m h = omega arith
cond_most false n m h = h

pub until_most : (s : List ℕ) → until s ≤ length s
unfolding until
until_most [] = omega arith
until_most (o ∷ s) = let h = until_most s in cond_most (resumes (o ∷ s)) (suc (until s)) (suc (length s)) (omega arith)

-- where no good frame begins reading does not resume
pub until_some : (s : List ℕ) → good_size s ≡ 0 → 0 < length s → 0 < until s
until_some [] z h = absurd (omega arith)
until_some (o ∷ s) z h = omega (arith, until_past o s (resumes_none (o ∷ s) z))

-- ---- the first span, and those behind it
-- how many octets the first span has
abbrev pub first_size : List ℕ → ℕ
first_size s = length (octets_in (first s))

module _ (s : List ℕ) where
  pub first_kept : 0 < good_size s → first s ≡ kept (take (good_size s) s)
  unfolding first
  first_kept h = simp (begins_some s h)

  pub first_cut : good_size s ≡ 0 → first s ≡ cut (take (until s) s)
  unfolding first
  first_cut e = simp (begins_none s e)

  kept_size : 0 < good_size s → first_size s ≡ good_size s
  kept_size h = ap (λ x. length (octets_in x)) (first_kept h) ∙ length-take-le (good_size s) s (within s)

  cut_size : good_size s ≡ 0 → first_size s ≡ until s
  cut_size e = ap (λ x. length (octets_in x)) (first_cut e) ∙ length-take-le (until s) s (until_most s)

  pub first_some : 0 < length s → 0 < first_size s
  first_some l = ⊎_elim (λ e. omega (arith, cut_size e, until_some s e l)) (λ h. omega (arith, kept_size h)) (none_or_some (good_size s))

-- with as many turns as there are octets, or more, all spans are there
agree : (j k : ℕ) (s : List ℕ) → length s ≤ j → length s ≤ k → spans_in j s ≡ spans_in k s
unfolding spans_in
agree zero zero s a b = refl
agree zero (suc k) [] a b = refl
agree zero (suc k) (o ∷ s) a b = absurd (omega arith)
agree (suc j) zero [] a b = refl
agree (suc j) zero (o ∷ s) a b = absurd (omega arith)
agree (suc j) (suc k) [] a b = refl
agree (suc j) (suc k) (o ∷ s) a b =
    let n = length (octets_in (first (o ∷ s))) in
    let l : length (drop n (o ∷ s)) ≤ length s = omega (arith, length-drop n (o ∷ s), first_some (o ∷ s) (omega arith)) in
    ap (λ r. first (o ∷ s) ∷ r) (agree j k (drop n (o ∷ s)) (omega arith) (omega arith))

pub spans_first : (s : List ℕ) → 0 < length s → spans s ≡ first s ∷ spans (drop (first_size s) s)
unfolding spans spans_in
spans_first [] h = absurd (omega arith)
spans_first (o ∷ s) h =
    let n = length (octets_in (first (o ∷ s))) in
    let l : length (drop n (o ∷ s)) ≤ length s = omega (arith, length-drop n (o ∷ s), first_some (o ∷ s) h) in
    ap (λ r. first (o ∷ s) ∷ r) (agree (length s) (length (drop n (o ∷ s))) (drop n (o ∷ s)) l (omega arith))

pub spans_none : (s : List ℕ) → length s ≡ 0 → spans s ≡ []
unfolding spans spans_in
spans_none [] h = refl
spans_none (o ∷ s) h = absurd (omega arith)

pub spans_kept : (s : List ℕ) → 0 < good_size s → spans s ≡ kept (take (good_size s) s) ∷ spans (drop (good_size s) s)
spans_kept s h =
    spans_first s (omega (arith, within s))
    ∙ ap (λ n. first s ∷ spans (drop n s)) (kept_size s h)
    ∙ ap (λ x. x ∷ spans (drop (good_size s) s)) (first_kept s h)

pub spans_cut : (s : List ℕ) → 0 < length s → good_size s ≡ 0 → spans s ≡ cut (take (until s) s) ∷ spans (drop (until s) s)
spans_cut s h e =
    spans_first s h
    ∙ ap (λ n. first s ∷ spans (drop n s)) (cut_size s e)
    ∙ ap (λ x. x ∷ spans (drop (until s) s)) (first_cut s e)
