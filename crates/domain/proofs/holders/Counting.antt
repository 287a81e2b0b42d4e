-- How many numbers below a bound are in a table of ids: as many as the table has in use. Assumes nothing.
use Rattle.std.specs.Prelude.{if◌then◌else◌}
use mathlib.Core.Path.{◌≡◌, refl, sym, ap, ◌∙◌}
use mathlib.Core.Bool.{Bool, true, false, not, ◌&&◌, ◌||◌, or-true, and-false}
use mathlib.Core.List.{List, [], ◌∷◌}
use Prim.Native.Nat.{ℕ, zero, suc, ◌+◌, ◌<◌, ◌≤◌}
use native.Mathlib.Nat.{zero-add}
use native.Mathlib.Omega.{arith}
use lib.Dec.{eqb, ltb}
use lib.ListN.{length}
use borrow.Author.Tests.{eq-eqb, ne_eqb, eqb-true, eqb-false, lt-ltb}
use Rattle.cols_spec.specs.Sets.{keep, any, upto, member}
use Rattle.cols_spec.specs.Places.{used, distinct}
use Rattle.cols_spec.proofs.Places.{distinct_head, distinct_tail}

-- how many below n pass
unfoldable pub count_to : (ℕ → Bool) → ℕ → ℕ
count_to f zero = 0
count_to f (suc n) = if f n then suc (count_to f n) else count_to f n

-- the list of those that pass, counted
pub count_upto : (f : ℕ → Bool) (n : ℕ) (rest : List ℕ) → length (keep f (upto n rest)) ≡ count_to f n + length (keep f rest)
unfolding keep upto count_to
count_upto f zero rest = sym (zero-add (length (keep f rest)))
count_upto f (suc n) rest = count_upto f n (n ∷ rest) ∙ go (f n)
  where
    go : (b : Bool) → count_to f n + length (if b then n ∷ keep f rest else keep f rest) ≡ (if b then suc (count_to f n) else count_to f n) + length (keep f rest)
    go true = omega arith
    go false = refl

pub count_same : (f g : ℕ → Bool) → ((k : ℕ) → f k ≡ g k) → (n : ℕ) → count_to f n ≡ count_to g n
unfolding count_to
count_same f g q zero = refl
count_same f g q (suc n) = rw (q n, count_same f g q n)

count_none : (f : ℕ → Bool) → ((k : ℕ) → f k ≡ false) → (n : ℕ) → count_to f n ≡ 0
unfolding count_to
count_none f q zero = refl
count_none f q (suc n) = rw (q n) (count_none f q n)

module _ (f : ℕ → Bool) (x : ℕ) where
  -- one more number, from x on and below x
  count_over : (n : ℕ) → n ≤ x → count_to (λ k. eqb k x || f k) n ≡ count_to f n
  unfolding count_to
  count_over zero l = refl
  count_over (suc n) l = rw (ne_eqb n x (λ e. omega (arith, e)), count_over n (omega arith))

  count_more : f x ≡ false → (n : ℕ) → x < n → count_to (λ k. eqb k x || f k) n ≡ suc (count_to f n)
  unfolding count_to
  count_more q zero l = absurd (omega arith)
  count_more q (suc n) l = go (eqb n x) refl (count_more q n)
    where
      both : (b : Bool) → count_to (λ k. eqb k x || f k) n ≡ suc (count_to f n)
          → (if b then suc (count_to (λ k. eqb k x || f k) n) else count_to (λ k. eqb k x || f k) n) ≡ suc (if b then suc (count_to f n) else count_to f n)
      both true h = ap suc h
      both false h = h

      go : (b : Bool) → eqb n x ≡ b → (x < n → count_to (λ k. eqb k x || f k) n ≡ suc (count_to f n))
          → (if b || f n then suc (count_to (λ k. eqb k x || f k) n) else count_to (λ k. eqb k x || f k) n) ≡ suc (if f n then suc (count_to f n) else count_to f n)
      go true e rec = rw (ap f (eqb-true n x e) ∙ q) (ap suc (count_over n (omega (arith, eqb-true n x e))))
      go false e rec = both (f n) (rec (omega (arith, eqb-false n x e)))

-- an id in use
abbrev pub in_use : List ℕ → ℕ → Bool
in_use ids k = not (eqb k 0) && member k ids

-- ids that stand once and are all below n: as many as places in use
pub count_ids : (n : ℕ) (ids : List ℕ) → distinct ids ≡ true → ((k : ℕ) → member k ids ≡ true → k < n) → count_to (in_use ids) n ≡ used ids
unfolding used keep member any
count_ids n [] m l = count_none (in_use []) (λ k. and-false (not (eqb k 0))) n
count_ids n (x ∷ ids) m l = go (eqb x 0) refl (count_ids n ids (distinct_tail x ids m) (λ k q. l k (rw q (or-true (eqb k x)))))
  where
    free : (k : ℕ) (b : Bool) → eqb k 0 ≡ b → (not (eqb k 0) && (eqb k 0 || member k ids)) ≡ (not (eqb k 0) && member k ids)
    free k true q = rw q
    free k false q = rw q

    more : (k : ℕ) (b : Bool) → eqb k x ≡ b → eqb x 0 ≡ false → (not (eqb k 0) && (b || member k ids)) ≡ (b || in_use ids k)
    more k true q z = rw (ne_eqb k 0 (λ e. eqb-false x 0 z (sym (eqb-true k x q) ∙ e)))
    more k false q z = refl

    alone : eqb x 0 ≡ false → in_use ids x ≡ false
    alone z = rw (z, distinct_head x ids m (eqb-false x 0 z))

    go : (b : Bool) → eqb x 0 ≡ b → count_to (in_use ids) n ≡ used ids → count_to (in_use (x ∷ ids)) n ≡ length (if ltb 0 x then x ∷ keep (λ y. ltb 0 y) ids else keep (λ y. ltb 0 y) ids)
    go true z h = rw (eqb-true x 0 z) (count_same (in_use (0 ∷ ids)) (in_use ids) (λ k. free k (eqb k 0) refl) n ∙ h)
    go false z h =
        rw (lt-ltb 0 x (omega (arith, eqb-false x 0 z)))
        (count_same (in_use (x ∷ ids)) (λ k. eqb k x || in_use ids k) (λ k. more k (eqb k x) refl z) n
        ∙ count_more (in_use ids) x (alone z) n (l x (rw (eq-eqb x x refl))) ∙ ap suc h)
