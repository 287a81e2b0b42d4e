-- The nearest place from a place on that passes a test, as a search of the code answers it; the length is nowhere.
use mathlib.Core.Path.{◌≡◌, refl, ap, ◌∙◌}
use mathlib.Core.Bool.{Bool, true, false}
use mathlib.Core.List.{List}
use Prim.Native.Nat.{ℕ, zero, suc, ◌+◌, ◌-◌, ◌≤◌, ◌<◌}
use native.Mathlib.Omega.{arith}
use lib.Dec.{eqb, ltb}
use lib.ListN.{length, get_or, drop}
use borrow.Author.Tests.{eqb-true, eqb-false, ltb-true, ltb-false}
use Rattle.cols_spec.specs.Places.{Place, At, Nowhere, first, number}
use Rattle.cols_spec.proofs.Places.{first_hit, first_miss, first_none}

-- no place before it passes, and below the length it does
pub record Nearest (n : ℕ) (test : (ℕ → Bool)) (from r : ℕ) : Type 0 where
  pub within : r ≤ n
  pub behind : from ≤ n → from ≤ r
  pub passed : (k : ℕ) → from ≤ k → k < r → test k ≡ false
  pub here : r < n → test r ≡ true

-- any search that finds a place that passes, goes on from one that does not, and ends at the length
module _ (n : ℕ) (test : ℕ → Bool) (from_on : ℕ → Place) (hit : (i : ℕ) → i < n → test i ≡ true → from_on i ≡ At i)
    (miss : (i : ℕ) → i < n → test i ≡ false → from_on i ≡ from_on (suc i)) (none : (i : ℕ) → n ≤ i → from_on i ≡ Nowhere) where
  -- m places are left from `from` on
  places_left : (m from r : ℕ) → from + m ≡ n → r ≡ number n (from_on from) → Nearest n test from r
  unfolding number
  places_left zero from r h e =
      let z : r ≡ n = e ∙ ap (number n) (none from (omega arith)) in
      record { within = omega arith; behind = λ l. omega arith; passed = λ k a b. absurd (omega arith); here = λ l. absurd (omega arith) }
  places_left (suc m) from r h e = go (test from) refl (places_left m (suc from) r (omega arith))
    where
      go : (b : Bool) → test from ≡ b → (r ≡ number n (from_on (suc from)) → Nearest n test (suc from) r) → Nearest n test from r
      go true q rec =
          let z : r ≡ from = e ∙ ap (number n) (hit from (omega arith) q) in
          record { within = omega arith; behind = λ l. omega arith; passed = λ k a b. absurd (omega arith); here = λ l. rw z q }
      go false q rec =
          let s = rec (e ∙ ap (number n) (miss from (omega arith) q)) in
          record {
            within = s.within;
            behind = λ l. omega (arith, s.behind (omega arith));
            passed = λ k a b. at k a b (eqb k from) refl (s.passed k);
            here = s.here;
          }
        where
          at : (k : ℕ) → from ≤ k → k < r → (b : Bool) → eqb k from ≡ b → (suc from ≤ k → k < r → test k ≡ false) → test k ≡ false
          at k a b true p f = ap test (eqb-true k from p) ∙ q
          at k a b false p f = f (omega (arith, eqb-false k from p)) b

  pub nearest_is : (from r : ℕ) → r ≡ number n (from_on from) → Nearest n test from r
  unfolding number
  nearest_is from r e = go (ltb n from) refl
    where
      go : (b : Bool) → ltb n from ≡ b → Nearest n test from r
      go true q =
          let l = ltb-true n from q in
          let z : r ≡ n = e ∙ ap (number n) (none from (omega arith)) in
          record { within = omega arith; behind = λ h. absurd (omega arith); passed = λ k a b. absurd (omega arith); here = λ h. absurd (omega arith) }
      go false q = places_left (n - from) from r (let l = ltb-false n from q in omega arith) e

-- what the code's `cell_from` answers
pub nearest_cell : (cells : List ℕ) (x from r : ℕ) → r ≡ number (length cells) (first from x (drop from cells)) → Nearest (length cells) (λ j. eqb (get_or cells j 0) x) from r
nearest_cell cells x =
    nearest_is (length cells) (λ j. eqb (get_or cells j 0) x) (λ i. first i x (drop i cells))
    (λ i h q. first_hit cells x i h (eqb-true (get_or cells i 0) x q))
    (λ i h q. first_miss cells x i h (eqb-false (get_or cells i 0) x q))
    (first_none cells x)
