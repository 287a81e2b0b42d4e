-- Members of a list of ids: by their places, of what is kept of it, and each once.
use Rattle.std.specs.Prelude.{if◌then◌else◌}
use mathlib.Core.Path.{◌≡◌, refl, sym, ap, ◌∙◌}
use mathlib.Core.Bool.{Bool, true, false, not, ◌&&◌, ◌||◌, false≢true, or-true, and-false, and-true}
use mathlib.Core.List.{List, [], ◌∷◌, ◌++◌}
use Prim.Native.Nat.{ℕ, zero, suc, ◌<◌}
use native.Mathlib.Omega.{arith}
use native.Mathlib.Nat.{le_of_suc-le-suc}
use lib.Dec.{eqb}
use lib.ListN.{length, get_or}
use borrow.Author.Tests.{eq-eqb, eqb-true}
use Rattle.cols_spec.specs.Sets.{any, member, keep, firsts, once}
use Rattle.cols_spec.proofs.Bools.{or_elim}

pub member_at : (ids : List ℕ) (i : ℕ) → i < length ids → member (get_or ids i 0) ids ≡ true
unfolding member any
member_at [] i h = absurd (omega arith)
member_at (x ∷ ids) zero h = rw (eq-eqb x x refl)
member_at (x ∷ ids) (suc i) h = rw (member_at ids i (le_of_suc-le-suc h)) (or-true (eqb (get_or ids i 0) x))

pub member_where : (xs : List ℕ) (x : ℕ) → member x xs ≡ true → (j : ℕ) × (get_or xs j 0 ≡ x)
unfolding member any
member_where [] x h = absurd (false≢true h)
member_where (y ∷ xs) x h = or_elim (eqb x y) (member x xs) h (λ e. (0, sym (eqb-true x y e))) (λ k. let r = member_where xs x k in (suc r.0, r.1))

-- where none of the places holds it, it is no member
pub member_none : (xs : List ℕ) (x : ℕ) → ((j : ℕ) → get_or xs j 0 ≡ x → ⊥) → member x xs ≡ false
member_none xs x f = go (member x xs) refl
  where
    go : (b : Bool) → member x xs ≡ b → member x xs ≡ false
    go true e = let r = member_where xs x e in absurd (f r.0 r.1)
    go false e = e

pub member_append : (x : ℕ) (xs ys : List ℕ) → member x (xs ++ ys) ≡ (member x xs || member x ys)
unfolding member any
member_append x [] ys = refl
member_append x (y ∷ xs) ys = go (eqb x y) (member_append x xs ys)
  where
    go : (b : Bool) → member x (xs ++ ys) ≡ (member x xs || member x ys) → (b || member x (xs ++ ys)) ≡ ((b || member x xs) || member x ys)
    go true e = refl
    go false e = e

pub member_keep : (f : ℕ → Bool) (u : ℕ) (xs : List ℕ) → member u (keep f xs) ≡ (f u && member u xs)
unfolding member any keep
member_keep f u [] = sym (and-false (f u))
member_keep f u (x ∷ xs) = go (f x) refl (eqb u x) refl (member_keep f u xs)
  where
    go : (b : Bool) → f x ≡ b → (c : Bool) → eqb u x ≡ c → member u (keep f xs) ≡ (f u && member u xs)
        → member u (if b then x ∷ keep f xs else keep f xs) ≡ (f u && (c || member u xs))
    go true p true q h = rw (q, ap f (eqb-true u x q) ∙ p)
    go true p false q h = rw q h
    go false p true q h = h ∙ rw (ap f (eqb-true u x q) ∙ p)
    go false p false q h = h

member_firsts : (u : ℕ) (before xs : List ℕ) → member u (firsts before xs) ≡ (member u xs && not (member u before))
unfolding member any firsts
member_firsts u before [] = refl
member_firsts u before (x ∷ xs) = go (member x before) refl (eqb u x) refl (member_firsts u (x ∷ before) xs)
  where
    go : (b : Bool) → member x before ≡ b → (c : Bool) → eqb u x ≡ c → member u (firsts (x ∷ before) xs) ≡ (member u xs && not (eqb u x || member u before))
        → member u (if b then firsts (x ∷ before) xs else x ∷ firsts (x ∷ before) xs) ≡ ((c || member u xs) && not (member u before))
    go true p true q h = h ∙ rw (q, ap (λ (v : ℕ). member v before) (eqb-true u x q) ∙ p) (and-false (member u xs))
    go true p false q h = h ∙ rw q
    go false p true q h = rw (q, ap (λ (v : ℕ). member v before) (eqb-true u x q) ∙ p)
    go false p false q h = rw (q, h) (rw q)

pub member_once : (u : ℕ) (xs : List ℕ) → member u (once xs) ≡ member u xs
unfolding once member any
member_once u xs = member_firsts u [] xs ∙ and-true (member u xs)
