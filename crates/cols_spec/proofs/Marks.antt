-- A mask of w digits whose elements all have a property, and what the operations on masks keep of it.
use mathlib.Core.Path.{◌≡◌, refl, sym, ap, ◌∙◌}
use mathlib.Core.Bool.{Bool, true, false, not, ◌&&◌, false≢true, or-true}
use Prim.Native.Nat.{ℕ, zero, suc, ◌<◌, ◌^◌, zero-le}
use native.Mathlib.Nat.{zero-lt-suc}
use lib.Dec.{eqb, ltb}
use lib.Pow.{pow_pos}
use borrow.Author.Tests.{eq-eqb, ne_eqb, eqb-true, eqb-false, ltb-true, ltb-false, not-true}
use Rattle.cols_spec.specs.Sets.{has, those, with, without, minus, meet, union, only}
use Rattle.cols_spec.proofs.Bools.{and_parts, or_elim}
use Rattle.cols_spec.proofs.Digits.{has_those, those_lt, is_those, has_high}

pub record Marks (w m : ℕ) (N : ℕ → Type 0) : Type 0 where
  pub fits : m < 2 ^ w
  pub are : (q : ℕ) → has m q ≡ true → N q

pub has_low : (w m q : ℕ) → m < 2 ^ w → has m q ≡ true → q < w
has_low w m q l h = go (ltb q w) refl
  where
    go : (b : Bool) → ltb q w ≡ b → q < w
    go true e = ltb-true q w e
    go false e = absurd (false≢true (sym (has_high w m q l (ltb-false q w e)) ∙ h))

pub has_none : (k : ℕ) → has 0 k ≡ false
has_none k = has_high 0 0 k (zero-lt-suc 0) zero-le

pub meet_none : (w n : ℕ) → meet w 0 n ≡ 0
unfolding meet
meet_none w n = sym (is_those w 0 (λ k. has 0 k && has n k) (pow_pos w) (λ k h. has_none k ∙ sym (ap (λ (b : Bool). b && has n k) (has_none k))))

pub has_pos : (m k : ℕ) → has m k ≡ true → 0 < m
has_pos zero k h = absurd (false≢true (sym (has_none k) ∙ h))
has_pos (suc m) k h = zero-lt-suc m

module _ (w : ℕ) where
  pub in_those : (f : ℕ → Bool) (q : ℕ) → has (those w f) q ≡ true → (q < w) × (f q ≡ true)
  in_those f q h = let l = has_low w (those w f) q (those_lt w f) h in (l, sym (has_those w f q l) ∙ h)

  module _ (m q : ℕ) where
    pub in_with : (k : ℕ) {C : Type 0} → has (with w m k) q ≡ true → (has m q ≡ true → C) → (q ≡ k → C) → C
    unfolding with
    in_with k h f g = or_elim (has m q) (eqb q k) (in_those _ q h).1 f (λ e. g (eqb-true q k e))

    pub in_union : (n : ℕ) {C : Type 0} → has (union w m n) q ≡ true → (has m q ≡ true → C) → (has n q ≡ true → C) → C
    unfolding union
    in_union n h f g = or_elim (has m q) (has n q) (in_those _ q h).1 f g

    pub in_meet : (n : ℕ) → has (meet w m n) q ≡ true → (has m q ≡ true) × (has n q ≡ true)
    unfolding meet
    in_meet n h = and_parts (has m q) (has n q) (in_those _ q h).1

    pub in_minus : (n : ℕ) → has (minus w m n) q ≡ true → (has m q ≡ true) × (has n q ≡ false)
    unfolding minus
    in_minus n h = let r = and_parts (has m q) (not (has n q)) (in_those _ q h).1 in (r.0, not-true (has n q) r.1)

    pub in_without : (k : ℕ) → has (without w m k) q ≡ true → (has m q ≡ true) × (q ≡ k → ⊥)
    unfolding without
    in_without k h = let r = and_parts (has m q) (not (eqb q k)) (in_those _ q h).1 in (r.0, eqb-false q k (not-true (eqb q k) r.1))

    -- and the other way
    pub with_old : (k : ℕ) → q < w → has m q ≡ true → has (with w m k) q ≡ true
    unfolding with
    with_old k l h = has_those w _ q l ∙ rw h

    pub with_new : q < w → has (with w m q) q ≡ true
    unfolding with
    with_new l = has_those w _ q l ∙ rw (eq-eqb q q refl) (or-true (has m q))

    pub union_left : (n : ℕ) → q < w → has m q ≡ true → has (union w m n) q ≡ true
    unfolding union
    union_left n l h = has_those w _ q l ∙ rw h

    pub without_other : (k : ℕ) → q < w → has m q ≡ true → (q ≡ k → ⊥) → has (without w m k) q ≡ true
    unfolding without
    without_other k l h n = has_those w _ q l ∙ rw (h, ne_eqb q k n)

  pub in_only : (k q : ℕ) → has (only w k) q ≡ true → k ≡ q
  unfolding only
  in_only k q h = eqb-true k q (in_those (eqb k) q h).1

  pub only_self : (k : ℕ) → k < w → has (only w k) k ≡ true
  unfolding only
  only_self k l = has_those w (eqb k) k l ∙ eq-eqb k k refl

  module _ {N : ℕ → Type 0} where
    pub marks_map : {M : ℕ → Type 0} {m : ℕ} → Marks w m M → ((q : ℕ) → M q → N q) → Marks w m N
    marks_map x f = record { fits = x.fits; are = λ q h. f q (x.are q h) }

    pub marks_none : Marks w 0 N
    marks_none = record { fits = pow_pos w; are = λ q h. absurd (false≢true (sym (has_none q) ∙ h)) }

    pub marks_only : (k : ℕ) → N k → Marks w (only w k) N
    unfolding only
    marks_only k x = record { fits = those_lt w (eqb k); are = λ q h. rw (in_only k q h) at x }

    pub marks_with : (m k : ℕ) → Marks w m N → N k → Marks w (with w m k) N
    unfolding with
    marks_with m k x y = record { fits = those_lt w _; are = λ q h. in_with m q k h (x.are q) (λ e. rw e y) }

    pub marks_union : (m n : ℕ) → Marks w m N → Marks w n N → Marks w (union w m n) N
    unfolding union
    marks_union m n x y = record { fits = those_lt w _; are = λ q h. in_union m q n h (x.are q) (y.are q) }

    pub marks_meet : (m n : ℕ) → ((q : ℕ) → has m q ≡ true → has n q ≡ true → N q) → Marks w (meet w m n) N
    unfolding meet
    marks_meet m n f = record { fits = those_lt w _; are = λ q h. let r = in_meet m q n h in f q r.0 r.1 }

    pub marks_minus : (m n : ℕ) → ((q : ℕ) → has m q ≡ true → has n q ≡ false → N q) → Marks w (minus w m n) N
    unfolding minus
    marks_minus m n f = record { fits = those_lt w _; are = λ q h. let r = in_minus m q n h in f q r.0 r.1 }

    pub marks_without : (m k : ℕ) → ((q : ℕ) → has m q ≡ true → (q ≡ k → ⊥) → N q) → Marks w (without w m k) N
    unfolding without
    marks_without m k f = record { fits = those_lt w _; are = λ q h. let r = in_without m q k h in f q r.0 r.1 }

pub with_mono : (w m n k q : ℕ) → (q < w → has m q ≡ true → has n q ≡ true) → has (with w m k) q ≡ true → has (with w n k) q ≡ true
unfolding with
with_mono w m n k q f h =
    let l = (in_those w _ q h).0 in
    in_with w m q k h (λ a. with_old w n q k l (f l a)) (λ e. rw (sym e) (with_new w n q l))
