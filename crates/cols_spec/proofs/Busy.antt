-- Places looked at eight at a time: ids in a row, and the first place in use from a place on.
use mathlib.Core.Path.{◌≡◌, refl, sym, ap, ◌∙◌}
use mathlib.Core.Bool.{Bool, true, false}
use mathlib.Core.List.{List}
use Prim.Native.Nat.{ℕ, zero, suc, ◌+◌, ◌-◌, ◌*◌, ◌≤◌, ◌<◌}
use native.Mathlib.Nat.{add-mul, add-zero, add-suc, zero-add, mul-one}
use native.Mathlib.Omega.{arith}
use lib.Dec.{ltb}
use lib.ListN.{length, get_or, drop, drop_of_length-le}
use lib.Seq.{drop-cons}
use borrow.Author.Tests.{eq-eqb, ne_eqb, ltb-true, ltb-false}
use Rattle.cols_spec.specs.Places.{At, Nowhere, busy, InRow, number}
use Rattle.cols_spec.proofs.Nearest.{nearest_is}

-- ---- in a row: two places, and two rows one behind the other

pub row_two : (ids : List ℕ) (i x step : ℕ) → get_or ids i 0 ≡ x → get_or ids (i + 1) 0 ≡ x + step → InRow ids i 2 x step
row_two ids i x step a b zero l = rw (add-zero i) (omega arith)
row_two ids i x step a b (suc zero) l = omega arith
row_two ids i x step a b (suc (suc k)) l = absurd (omega arith)

pub row_join : (ids : List ℕ) (i n m x step : ℕ) → InRow ids i n x step → InRow ids (i + n) m (x + n * step) step → InRow ids i (n + m) x step
row_join ids i n m x step a b k l = go (ltb k n) refl
  where
    go : (c : Bool) → ltb k n ≡ c → get_or ids (i + k) 0 ≡ x + k * step
    go true e = a k (ltb-true k n e)
    go false e =
        let h : n ≤ k = ltb-false k n e in
        let j : ℕ = k - n in
        let s : n + j ≡ k = omega arith in
        let p : i + n + j ≡ i + k = omega arith in
        sym (ap (λ (y : ℕ). get_or ids y 0) p) ∙ b j (omega arith) ∙ omega (arith, sym (add-mul n j step) ∙ ap (λ (y : ℕ). y * step) s)

-- from the first place on
pub row_on : (ids : List ℕ) (i n x : ℕ) → InRow ids 0 i x 1 → InRow ids i n (x + i) 1 → InRow ids 0 (i + n) x 1
row_on ids i n x a b = row_join ids 0 i n x 1 a (rw (zero-add i, mul-one i) b)

-- ---- the first place in use

module _ (ids : List ℕ) (i : ℕ) where
  pub busy_hit : i < length ids → 0 < get_or ids i 0 → busy i (drop i ids) ≡ At i
  unfolding busy
  busy_hit h u = rw (drop-cons ids i 0) (simp (ne_eqb (get_or ids i 0) 0 (λ q. omega arith)))

  pub busy_miss : i < length ids → get_or ids i 0 ≡ 0 → busy i (drop i ids) ≡ busy (suc i) (drop (suc i) ids)
  unfolding busy
  busy_miss h e = rw (drop-cons ids i 0) (simp (eq-eqb (get_or ids i 0) 0 e))

  pub busy_none : length ids ≤ i → busy i (drop i ids) ≡ Nowhere
  unfolding busy
  busy_none h = rw (drop_of_length-le ids h)

-- free places are passed
pub busy_past : (ids : List ℕ) (i n : ℕ) → i + n ≤ length ids → InRow ids i n 0 0 → busy i (drop i ids) ≡ busy (i + n) (drop (i + n) ids)
busy_past ids i zero h f = rw (add-zero i) refl
busy_past ids i (suc n) h f =
    let z : get_or ids (i + n) 0 ≡ 0 = omega (arith, f n (omega arith)) in
    rw (add-suc i n) (busy_past ids i n (omega arith) (λ k l. f k (omega arith)) ∙ busy_miss ids (i + n) (omega arith) z)

-- what the code's `used_from` answers: no place before it is in use, and below the length it is
pub record Busy (ids : List ℕ) (from r : ℕ) : Type 0 where
  pub within : r ≤ length ids
  pub behind : from ≤ length ids → from ≤ r
  pub free : (k : ℕ) → from ≤ k → k < r → get_or ids k 0 ≡ 0
  pub in_use : r < length ids → 0 < get_or ids r 0

pub busy_is : (ids : List ℕ) (from r : ℕ) → r ≡ number (length ids) (busy from (drop from ids)) → Busy ids from r
busy_is ids from r e =
    let used : ℕ → Bool = λ k. ltb 0 (get_or ids k 0) in
    let b = nearest_is (length ids) used (λ i. busy i (drop i ids)) (λ i h q. busy_hit ids i h (ltb-true 0 (get_or ids i 0) q))
    (λ i h q. busy_miss ids i h (omega (arith, ltb-false 0 (get_or ids i 0) q))) (busy_none ids) from r e in
    record {
      within = b.within;
      behind = b.behind;
      free = λ k a l. omega (arith, ltb-false 0 (get_or ids k 0) (b.passed k a l));
      in_use = λ l. ltb-true 0 (get_or ids r 0) (b.here l);
    }
