-- The ids in order are all of them, and of enough ids one is free.
use Rattle.std.specs.Prelude.{if◌then◌else◌}
use mathlib.Core.Path.{◌≡◌, refl, sym, ap, ◌∙◌}
use mathlib.Core.Bool.{Bool, true, false, ◌||◌, true≢false, false≢true, or-true}
use mathlib.Core.List.{List, [], ◌∷◌}
use Prim.Native.Nat.{ℕ, zero, suc, ◌+◌, ◌<◌, ◌≤◌, suc-le-suc, zero-le}
use native.Mathlib.Omega.{arith}
use lib.Dec.{eqb, ltb}
use lib.ListN.{length}
use borrow.Author.Tests.{ne_eqb, eqb-true, eqb-false, ltb-true, ltb-false, lt-ltb, le-ltb}
use Rattle.cols_spec.specs.Sets.{keep, member, any}
use Rattle.cols_spec.specs.Places.{Place, At, Nowhere, find, found, lesser, next, rising, in_order, unused}
use Rattle.cols_spec.proofs.Bools.{and_parts, or_parts}
use Rattle.cols_spec.proofs.Rows.{find_holds}
use Rattle.cols_spec.proofs.Members.{member_at}

-- ---- how many are kept

pub keep_le : (f : ℕ → Bool) (xs : List ℕ) → length (keep f xs) ≤ length xs
unfolding keep
keep_le f [] = zero-le
keep_le f (x ∷ xs) = go (f x) (keep_le f xs)
  where
    go : (b : Bool) → length (keep f xs) ≤ length xs → length (if b then x ∷ keep f xs else keep f xs) ≤ suc (length xs)
    go true r = suc-le-suc r
    go false r = omega arith

-- fewer pass a narrower test, if one that is there passes the wider only
module _ (f g : ℕ → Bool) (narrow : (x : ℕ) → g x ≡ true → f x ≡ true) where
  kept_le : (xs : List ℕ) → length (keep g xs) ≤ length (keep f xs)
  unfolding keep
  kept_le [] = zero-le
  kept_le (x ∷ xs) = go (g x) refl (f x) refl (kept_le xs)
    where
      go : (b : Bool) → g x ≡ b → (c : Bool) → f x ≡ c → length (keep g xs) ≤ length (keep f xs)
          → length (if b then x ∷ keep g xs else keep g xs) ≤ length (if c then x ∷ keep f xs else keep f xs)
      go true p true q h = suc-le-suc h
      go true p false q h = absurd (true≢false (sym (narrow x p) ∙ q))
      go false p true q h = omega arith
      go false p false q h = h

  kept_lt : (m : ℕ) → f m ≡ true → g m ≡ false → (xs : List ℕ) → member m xs ≡ true → length (keep g xs) < length (keep f xs)
  unfolding keep member any
  kept_lt m yf ng [] e = absurd (false≢true e)
  kept_lt m yf ng (x ∷ xs) e = go (eqb m x) refl e (g x) refl (f x) refl (kept_lt m yf ng xs) (kept_le xs)
    where
      go : (a : Bool) → eqb m x ≡ a → (a || member m xs) ≡ true → (b : Bool) → g x ≡ b → (c : Bool) → f x ≡ c
          → (member m xs ≡ true → length (keep g xs) < length (keep f xs)) → length (keep g xs) ≤ length (keep f xs)
          → length (if b then x ∷ keep g xs else keep g xs) < length (if c then x ∷ keep f xs else keep f xs)
      go true i e true p c q h l = absurd (true≢false (sym p ∙ ap g (sym (eqb-true m x i)) ∙ ng))
      go true i e false p true q h l = suc-le-suc l
      go true i e false p false q h l = absurd (true≢false (sym yf ∙ ap f (eqb-true m x i) ∙ q))
      go false i e true p true q h l = suc-le-suc (h e)
      go false i e true p false q h l = absurd (true≢false (sym (narrow x p) ∙ q))
      go false i e false p true q h l = suc-le-suc l
      go false i e false p false q h l = h e

-- how many are above
unfoldable pub above : ℕ → List ℕ → ℕ
above low xs = length (keep (ltb low) xs)

pub above_less : (low x : ℕ) (xs : List ℕ) → low < x → member x xs ≡ true → above x xs < above low xs
unfolding above
above_less low x xs h m =
    kept_lt (ltb low) (ltb x) (λ y r. lt-ltb low y (omega (arith, h, ltb-true x y r))) x (lt-ltb low x h) (le-ltb x x (omega arith)) xs m

-- ---- the least id above another

less_than : (low best x : ℕ) → lesser low best x ≡ true → (low < x) × ((best ≡ 0 → ⊥) → x < best)
unfolding lesser
less_than low best x q = (ltb-true low x (and_parts (ltb low x) _ q).0, λ n. ltb-true x best (rw (ne_eqb best 0 n) at (and_parts (ltb low x) _ q).1))

not_less : (low best x : ℕ) → lesser low best x ≡ false → low < x → (best ≡ 0 → ⊥) × (best ≤ x)
unfolding lesser
not_less low best x q l =
    let r : (eqb best 0 || ltb x best) ≡ false = rw (lt-ltb low x l) at q in
    (eqb-false best 0 (or_parts (eqb best 0) _ r).0, ltb-false x best (or_parts (eqb best 0) _ r).1)

module _ (low u : ℕ) where
  next_under : (best : ℕ) (xs : List ℕ) → low < best → best ≤ u → (low < next low best xs) × (next low best xs ≤ u)
  unfolding next
  next_under best [] l m = (l, m)
  next_under best (x ∷ xs) l m = go (lesser low best x) refl (λ b. next_under b xs)
    where
      go : (b : Bool) → lesser low best x ≡ b → ((c : ℕ) → low < c → c ≤ u → (low < next low c xs) × (next low c xs ≤ u))
          → (low < next low (if b then x else best) xs) × (next low (if b then x else best) xs ≤ u)
      go true q rec = rec x (less_than low best x q).0 (omega (arith, (less_than low best x q).1 (λ e. omega arith)))
      go false q rec = rec best l m

  -- an id that is there is no less than the next
  pub next_of : (best : ℕ) (xs : List ℕ) → ((best ≡ 0 → ⊥) → low < best) → low < u → member u xs ≡ true → (low < next low best xs) × (next low best xs ≤ u)
  unfolding next member any
  next_of best [] ok l m = absurd (false≢true m)
  next_of best (x ∷ xs) ok l m = go (eqb u x) refl m (lesser low best x) refl (λ b. next_of b xs)
    where
      go : (a : Bool) → eqb u x ≡ a → (a || member u xs) ≡ true → (b : Bool) → lesser low best x ≡ b
          → ((c : ℕ) → ((c ≡ 0 → ⊥) → low < c) → low < u → member u xs ≡ true → (low < next low c xs) × (next low c xs ≤ u))
          → (low < next low (if b then x else best) xs) × (next low (if b then x else best) xs ≤ u)
      go true i e true q rec = next_under x xs (less_than low best x q).0 (omega (arith, eqb-true u x i))
      go true i e false q rec =
          let n = not_less low best x q (omega (arith, eqb-true u x i)) in
          next_under best xs (ok n.0) (omega (arith, n.1, eqb-true u x i))
      go false i e true q rec = rec x (λ n. (less_than low best x q).0) l e
      go false i e false q rec = rec best ok l e

-- the next is above `low`, unless there is none
pub next_above : (low best : ℕ) (xs : List ℕ) → ((best ≡ 0 → ⊥) → low < best) → (next low best xs ≡ 0 → ⊥) → low < next low best xs
unfolding next
next_above low best [] ok n = ok n
next_above low best (x ∷ xs) ok n = go (lesser low best x) refl n (λ b. next_above low b xs)
  where
    go : (b : Bool) → lesser low best x ≡ b → (next low (if b then x else best) xs ≡ 0 → ⊥)
        → ((c : ℕ) → ((c ≡ 0 → ⊥) → low < c) → (next low c xs ≡ 0 → ⊥) → low < next low c xs) → low < next low (if b then x else best) xs
    go true q k rec = rec x (λ z. (less_than low best x q).0) k
    go false q k rec = rec best ok k

-- the next is the one so far, or is there
pub next_there : (low best : ℕ) (xs : List ℕ) → (next low best xs ≡ best → ⊥) → member (next low best xs) xs ≡ true
unfolding next member any
next_there low best [] n = absurd (n refl)
next_there low best (x ∷ xs) n = go (lesser low best x) n (λ b. next_there low b xs)
  where
    settle : (c : ℕ) → (d : Bool) → eqb (next low c xs) c ≡ d → ((next low c xs ≡ c → ⊥) → member (next low c xs) xs ≡ true)
        → (eqb (next low c xs) c ≡ true → eqb (next low c xs) x ≡ true) → (eqb (next low c xs) x || member (next low c xs) xs) ≡ true
    settle c true q rec s = rw (s q)
    settle c false q rec s = rw (rec (eqb-false (next low c xs) c q)) (or-true (eqb (next low c xs) x))

    go : (b : Bool) → (next low (if b then x else best) xs ≡ best → ⊥) → ((c : ℕ) → (next low c xs ≡ c → ⊥) → member (next low c xs) xs ≡ true)
        → (eqb (next low (if b then x else best) xs) x || member (next low (if b then x else best) xs) xs) ≡ true
    go true n rec = settle x (eqb (next low x xs) x) refl (rec x) (λ q. q)
    go false n rec = settle best (eqb (next low best xs) best) refl (rec best) (λ q. absurd (n (eqb-true (next low best xs) best q)))

-- ---- the ids in order

rising_has : (n low : ℕ) (ids : List ℕ) (x : ℕ) → above low ids ≤ n → member x ids ≡ true → low < x → member x (rising n low ids) ≡ true
unfolding rising member any
rising_has zero low ids x a m h = absurd (omega (arith, a, above_less low x ids h m))
rising_has (suc n) low ids x a m h = go (next low 0 ids) refl (λ y b k. rising_has n y ids x b m k)
  where
    spec : (low < next low 0 ids) × (next low 0 ids ≤ x)
    spec = next_of low x 0 ids (λ z. absurd (z refl)) h m

    go : (y : ℕ) → next low 0 ids ≡ y → ((z : ℕ) → above z ids ≤ n → z < x → member x (rising n z ids) ≡ true)
        → member x (elim y [ zero ↦ [] | suc z ↦ suc z ∷ rising n (suc z) ids ]) ≡ true
    go zero e rec = absurd (omega (arith, spec, e))
    go (suc z) e rec = here (eqb x (suc z)) refl
      where
        there : member (suc z) ids ≡ true
        there = ap (λ (y : ℕ). member y ids) (sym e) ∙ next_there low 0 ids (λ q. omega (arith, e, q))

        here : (b : Bool) → eqb x (suc z) ≡ b → (b || member x (rising n (suc z) ids)) ≡ true
        here true q = refl
        here false q =
            rec (suc z) (omega (arith, a, above_less low (suc z) ids (omega (arith, spec, e)) there)) (omega (arith, spec, e, eqb-false x (suc z) q))

pub in_order_has : (ids : List ℕ) (x : ℕ) → member x ids ≡ true → 0 < x → member x (in_order ids) ≡ true
unfolding in_order above
in_order_has ids x m h = rising_has (length ids) 0 ids x (keep_le (ltb 0) ids) m h

-- there are no more ids in order than ids
rising_length : (n low : ℕ) (ids : List ℕ) → length (rising n low ids) ≤ n
unfolding rising
rising_length zero low ids = zero-le
rising_length (suc n) low ids = go (next low 0 ids) (λ y. rising_length n y ids)
  where
    go : (y : ℕ) → ((z : ℕ) → length (rising n z ids) ≤ n) → length {A = ℕ} (elim y as (λ (_ : ℕ). List ℕ) [ zero ↦ [] | suc z ↦ suc z ∷ rising n (suc z) ids ]) ≤ suc n
    go zero r = zero-le
    go (suc z) r = suc-le-suc (r (suc z))

pub in_order_length : (ids : List ℕ) → length (in_order ids) ≤ length ids
unfolding in_order
in_order_length ids = rising_length (length ids) 0 ids

-- ---- a free id

-- no more ids above `low` than tries: one of them is free
pub unused_free : (n : ℕ) (ids : List ℕ) (low : ℕ) → above low ids ≤ n → (found (find ids (unused n ids (suc low))) ≡ false) × (low < unused n ids (suc low)) × (unused n ids (suc low) ≤ suc low + n)
unfolding unused found
unused_free zero ids low h = (go (find ids (suc low)) refl, omega arith, omega arith)
  where
    go : (w : Place) → find ids (suc low) ≡ w → found w ≡ false
    go (At i) e = let r = find_holds ids (suc low) i e in
        absurd (let l : above (suc low) ids < above low ids = above_less low (suc low) ids (omega arith) (rw r.0 at (member_at ids i r.1)) in omega arith)
    go Nowhere e = refl
unused_free (suc n) ids low h = go (find ids (suc low)) refl (λ k. unused_free n ids (suc low) k)
  where
    Next : ℕ → Type 0
    Next x = (found (find ids x) ≡ false) × (low < x) × (x ≤ suc low + suc n)

    go : (w : Place) → find ids (suc low) ≡ w
        → (above (suc low) ids ≤ n → (found (find ids (unused n ids (suc (suc low)))) ≡ false) × (suc low < unused n ids (suc (suc low))) × (unused n ids (suc (suc low)) ≤ suc (suc low) + n))
        → Next (elim w [ Nowhere ↦ suc low | At i ↦ unused n ids (suc (suc low)) ])
    go (At i) e rec = let r = find_holds ids (suc low) i e in
        let l : above (suc low) ids < above low ids = above_less low (suc low) ids (omega arith) (rw r.0 at (member_at ids i r.1)) in
        let q = rec (omega arith) in (q.0, omega (arith, q.1), omega (arith, q.2))
    go Nowhere e rec = (ap found e, omega arith, omega arith)
