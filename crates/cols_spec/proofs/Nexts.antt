-- The numbers of a mask one after the other: the next is the mask shifted and its zeros counted, and what lies between is not in the mask.
use mathlib.Core.Path.{◌≡◌, refl, sym, ap, ◌∙◌}
use mathlib.Core.Bool.{Bool, true, false}
use Prim.Native.Nat.{ℕ, zero, suc, ◌+◌, ◌-◌, ◌/◌, ◌%◌, ◌^◌, ◌≤◌, ◌<◌}
use native.Mathlib.Nat.{le_of_suc-le-suc}
use native.Mathlib.Omega.{arith}
use lib.Count.{count_trailing_zeros, under}
use lib.Dec.{eqb, ltb}
use lib.Pow.{shr-shr, shr_le}
use borrow.Author.Tests.{eq-eqb, ne_eqb, ltb-true, ltb-false}
use Rattle.cols_spec.specs.Sets.{has, seats, NextIn}
use Rattle.cols_spec.proofs.Below.{across}
use Rattle.cols_spec.proofs.Digits.{has_zero, has_suc, half_lt_pow}
use Rattle.cols_spec.proofs.Marks.{has_none, has_low}

-- ---- the zeros below the lowest number of a mask

zeros_none : (w n k : ℕ) → k < count_trailing_zeros w n → has n k ≡ false
unfolding count_trailing_zeros
zeros_none zero n k h = absurd (omega arith)
zeros_none (suc w) n k h = go (zeros_none w (n / 2)) (n % 2) refl k h
  where
    go : ((k : ℕ) → k < count_trailing_zeros w (n / 2) → has (n / 2) k ≡ false) → (d : ℕ) → n % 2 ≡ d → (k : ℕ) → k < under d (count_trailing_zeros w (n / 2)) → has n k ≡ false
    go rest zero e zero l = has_zero n ∙ ne_eqb (n % 2) 1 (λ q. omega arith)
    go rest zero e (suc k) l = has_suc n k ∙ rest k (le_of_suc-le-suc l)
    go rest (suc d) e k l = absurd (omega arith)

zeros_has : (w n : ℕ) → 0 < n → n < 2 ^ w → has n (count_trailing_zeros w n) ≡ true
unfolding count_trailing_zeros
zeros_has zero n p l = absurd (omega arith)
zeros_has (suc w) n p l = go (λ q. zeros_has w (n / 2) q (half_lt_pow w l)) (n % 2) refl
  where
    go : (0 < n / 2 → has (n / 2) (count_trailing_zeros w (n / 2)) ≡ true) → (d : ℕ) → n % 2 ≡ d → has n (under d (count_trailing_zeros w (n / 2))) ≡ true
    go rest zero e = has_suc n (count_trailing_zeros w (n / 2)) ∙ rest (omega arith)
    go rest (suc d) e = has_zero n ∙ eq-eqb (n % 2) 1 (omega arith)

-- ---- the mask shifted

has_shift : (m j k : ℕ) → has (m / 2 ^ j) k ≡ has m (j + k)
unfolding has
has_shift m j k = ap (λ (x : ℕ). eqb (x % 2) 1) (shr-shr m j k)

has_behind : (m j k : ℕ) → j ≤ k → has m k ≡ has (m / 2 ^ j) (k - j)
has_behind m j k h = let e : j + (k - j) ≡ k = omega arith in ap (has m) (sym e) ∙ sym (has_shift m j (k - j))

-- ---- what the code answers: nothing from the width on, nothing in what is left, or the lowest of it
module _ (m from : ℕ) where
  pub next_high : seats ≤ from → NextIn m from 64
  next_high h = record { within = omega arith; passed = λ k a b. absurd (omega arith); here = λ l. absurd (omega arith) }

  pub next_none : m / 2 ^ from ≡ 0 → NextIn m from 64
  next_none e = record {
    within = omega arith;
    passed = λ k a b. has_behind m from k a ∙ ap (λ (x : ℕ). has x (k - from)) e ∙ has_none (k - from);
    here = λ l. absurd (omega arith);
  }

  module _ (l : m < 2 ^ seats) (n : m / 2 ^ from ≡ 0 → ⊥) where
    next_has : has m (from + count_trailing_zeros seats (m / 2 ^ from)) ≡ true
    next_has =
        let small : m / 2 ^ from < 2 ^ seats = omega (arith, shr_le m from) in
        let some : 0 < m / 2 ^ from = omega arith in
        sym (has_shift m from _) ∙ zeros_has seats (m / 2 ^ from) some small

    pub next_small : from + count_trailing_zeros seats (m / 2 ^ from) < seats
    next_small = has_low seats m _ l next_has

    pub next_found : NextIn m from (from + count_trailing_zeros seats (m / 2 ^ from))
    next_found = record {
      within = omega (arith, next_small);
      passed = λ k a b. has_behind m from k a ∙ zeros_none seats (m / 2 ^ from) (k - from) (omega arith);
      here = λ h. (omega arith, next_has);
    }

-- ---- a loop over the numbers of a mask: what holds before those that it passes holds behind them, where each of them keeps it
module _ {m from r : ℕ} (x : NextIn m from r) (l : from ≤ seats) where
  pub next_behind : from ≤ r
  next_behind = go (ltb r seats) refl
    where
      go : (b : Bool) → ltb r seats ≡ b → from ≤ r
      go true e = (x.here (ltb-true r seats e)).0
      go false e = omega (arith, ltb-false r seats e)

  pub next_keeps : (P : ℕ → Type 0) → ((k : ℕ) → k < seats → has m k ≡ false → P k → P (k + 1)) → P from → P r
  next_keeps P f p = across P r next_behind (λ k a b. f k (omega (arith, x.within)) (x.passed k a b)) p
