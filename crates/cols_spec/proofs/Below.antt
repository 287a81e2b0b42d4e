-- The numbers below n: all of them pass a test, some does, or the first that does; and what each number of a range keeps.
use mathlib.Core.Path.{◌≡◌, refl, ap, ◌∙◌}
use mathlib.Core.Bool.{Bool, true, false, false≢true, or-true}
use mathlib.Core.List.{List, [], ◌∷◌}
use Prim.Native.Nat.{ℕ, zero, suc, ◌+◌, ◌≤◌, ◌<◌}
use native.Mathlib.Decide.{le_ind}
use native.Mathlib.Numerals.{add-one}
use native.Mathlib.Omega.{arith}
use lib.Dec.{eqb}
use borrow.Author.Tests.{eqb-true, eqb-false}
use Rattle.cols_spec.specs.Sets.{any, all, upto}
use Rattle.cols_spec.proofs.Bools.{and_parts, and_both, or_elim}

pub all_upto : (f : ℕ → Bool) (n : ℕ) (rest : List ℕ) → all f (upto n rest) ≡ true → ((i : ℕ) → i < n → f i ≡ true) × (all f rest ≡ true)
unfolding all upto
all_upto f zero rest h = (λ i l. absurd (omega arith), h)
all_upto f (suc n) rest h =
    let r = all_upto f n (n ∷ rest) h in
    let b = and_parts (f n) (all f rest) r.1 in
    (λ i l. go i l r.0 b.0 (eqb i n) refl, b.1)
  where
    go : (i : ℕ) → i < suc n → ((j : ℕ) → j < n → f j ≡ true) → f n ≡ true → (c : Bool) → eqb i n ≡ c → f i ≡ true
    go i l r q true e = rw (eqb-true i n e) q
    go i l r q false e = r i (let z : i ≡ n → ⊥ = eqb-false i n e in omega arith)

pub all_hit : (f : ℕ → Bool) (n : ℕ) (rest : List ℕ) → ((i : ℕ) → i < n → f i ≡ true) → all f rest ≡ true → all f (upto n rest) ≡ true
unfolding all upto
all_hit f zero rest h r = r
all_hit f (suc n) rest h r = all_hit f n (n ∷ rest) (λ i l. h i (omega arith)) (and_both (h n (omega arith)) r)

pub any_later : (f : ℕ → Bool) (n : ℕ) (rest : List ℕ) → any f rest ≡ true → any f (upto n rest) ≡ true
unfolding any upto
any_later f zero rest h = h
any_later f (suc n) rest h = any_later f n (n ∷ rest) (rw h (or-true (f n)))

pub any_hit : (f : ℕ → Bool) (n : ℕ) (rest : List ℕ) (i : ℕ) → i < n → f i ≡ true → any f (upto n rest) ≡ true
unfolding any upto
any_hit f zero rest i l h = absurd (omega arith)
any_hit f (suc n) rest i l h = go (eqb i n) refl (λ k. any_hit f n (n ∷ rest) i k h)
  where
    go : (c : Bool) → eqb i n ≡ c → (i < n → any f (upto n (n ∷ rest)) ≡ true) → any f (upto n (n ∷ rest)) ≡ true
    go true e rec = any_later f n (n ∷ rest) (rw (rw (eqb-true i n e) at h))
    go false e rec = rec (let z : i ≡ n → ⊥ = eqb-false i n e in omega arith)

pub any_none : (f : ℕ → Bool) → ((u : ℕ) → f u ≡ false) → (xs : List ℕ) → any f xs ≡ false
unfolding any
any_none f q [] = refl
any_none f q (x ∷ xs) = rw (q x) (any_none f q xs)

-- tests that agree; one that passes
pub any_same : (f g : ℕ → Bool) → ((x : ℕ) → f x ≡ g x) → (xs : List ℕ) → any f xs ≡ any g xs
unfolding any
any_same f g e [] = refl
any_same f g e (x ∷ xs) = rw (e x, any_same f g e xs)

pub any_elim : {C : Type 0} (f : ℕ → Bool) (xs : List ℕ) → any f xs ≡ true → ((x : ℕ) → f x ≡ true → C) → C
unfolding any
any_elim f [] e g = absurd (false≢true e)
any_elim f (x ∷ xs) e g = or_elim (f x) (any f xs) e (g x) (λ r. any_elim f xs r g)

-- one of the numbers below n, or one of the rest
pub any_upto : {C : Type 0} (f : ℕ → Bool) (n : ℕ) (rest : List ℕ) → any f (upto n rest) ≡ true
    → ((i : ℕ) → i < n → f i ≡ true → C) → (any f rest ≡ true → C) → C
unfolding upto any
any_upto f zero rest e g h = h e
any_upto f (suc n) rest e g h =
    any_upto f n (n ∷ rest) e (λ i l. g i (omega arith)) (λ r. or_elim (f n) (any f rest) r (g n (omega arith)) h)

-- the first of those below n that passes, or none does
pub data Search (f : ℕ → Bool) (n : ℕ) : Type 0 where
  hit : (i : ℕ) → i < n → f i ≡ true → Search f n
  miss : ((i : ℕ) → i < n → f i ≡ false) → Search f n

pub seek_first : (f : ℕ → Bool) (n : ℕ) → Search f n
seek_first f zero = miss (λ i l. absurd (omega arith))
seek_first f (suc n) = go (seek_first f n) (f n) refl
  where
    at : (i : ℕ) → i < suc n → (b : Bool) → eqb i n ≡ b → f n ≡ false → ((i : ℕ) → i < n → f i ≡ false) → f i ≡ false
    at i l true e q h = ap f (eqb-true i n e) ∙ q
    at i l false e q h = h i (omega (arith, eqb-false i n e))

    go : Search f n → (b : Bool) → f n ≡ b → Search f (suc n)
    go (hit i l q) b r = hit i (omega arith) q
    go (miss h) true r = hit n (omega arith) r
    go (miss h) false r = miss (λ i l. at i l (eqb i n) refl r h)

-- from a number to another: what each number between them keeps
pub across : {from : ℕ} (P : ℕ → Type 0) (r : ℕ) → from ≤ r → ((k : ℕ) → from ≤ k → k < r → P k → P (k + 1)) → P from → P r
across {from} P r h f p = le_ind (λ (k : ℕ). k ≤ r → P k) (λ l. p) (λ k a q l. rw add-one at (f k a l (q (omega arith)))) r h (omega arith)
