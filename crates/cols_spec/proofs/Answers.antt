-- A place as the number that the code answers: below the length it is that place, and the length is nowhere.
use mathlib.Core.Path.{◌≡◌, refl, sym, ap, ◌∙◌}
use mathlib.Core.Bool.{true, false, true≢false}
use mathlib.Core.List.{List}
use Prim.Native.Nat.{ℕ, ◌≤◌, ◌<◌}
use native.Mathlib.Omega.{arith}
use lib.ListN.{length, get_or}
use Rattle.cols_spec.specs.Places.{Place, At, Nowhere, first, find, found, spare, number}
use Rattle.cols_spec.proofs.Rows.{first_holds, find_holds, find_none}

-- the places that a search in n places can give
abbrev pub Inside : ℕ → Place → Type 0
Inside n p = (i : ℕ) → p ≡ At i → i < n

pub first_inside : (ids : List ℕ) (x : ℕ) → Inside (length ids) (first 0 x ids)
first_inside ids x i e = (first_holds ids x i e).1

pub find_inside : (ids : List ℕ) (x : ℕ) → Inside (length ids) (find ids x)
find_inside ids x i e = (find_holds ids x i e).1

pub spare_inside : (ids : List ℕ) → Inside (length ids) (spare ids)
unfolding spare
spare_inside ids = first_inside ids 0

-- an answer is at most n; below n it is the place; n is nowhere
module _ (n : ℕ) (p : Place) (r : ℕ) (is : r ≡ number n p) where
  pub number_at : r < n → p ≡ At r
  unfolding number
  number_at l = go p refl
    where
      go : (q : Place) → p ≡ q → p ≡ At r
      go (At i) e = e ∙ ap At (sym (is ∙ ap (number n) e))
      go Nowhere e = absurd (let z : r ≡ n = is ∙ ap (number n) e in omega arith)

  module _ (inside : Inside n p) where
    pub number_none : n ≤ r → p ≡ Nowhere
    unfolding number
    number_none l = go p refl
      where
        go : (q : Place) → p ≡ q → p ≡ Nowhere
        go (At i) e = absurd (let z : r ≡ i = is ∙ ap (number n) e in omega (arith, inside i e))
        go Nowhere e = e

-- the same of what the code's `find` and `spare` answer
module _ (ids : List ℕ) (x r : ℕ) (is : r ≡ number (length ids) (find ids x)) where
  pub find_at : r < length ids → find ids x ≡ At r
  find_at = number_at (length ids) (find ids x) r is

  pub find_nowhere : length ids ≤ r → find ids x ≡ Nowhere
  find_nowhere = number_none (length ids) (find ids x) r is (find_inside ids x)

-- an id that stands at a place is found, though it may be elsewhere
pub stands_found : (ids : List ℕ) (x i : ℕ) → 0 < x → get_or ids i 0 ≡ x → found (find ids x) ≡ true
unfolding found
stands_found ids x i z e = go (find ids x) refl
  where
    go : (p : Place) → find ids x ≡ p → found p ≡ true
    go (At j) q = refl
    go Nowhere q = absurd (find_none ids x q z i e)

-- where it is found, and that it is not
pub found_somewhere : (p : Place) → found p ≡ true → (i : ℕ) × (p ≡ At i)
unfolding found
found_somewhere (At i) e = (i, refl)
found_somewhere Nowhere e = absurd (true≢false (sym e))

pub found_nowhere : (p : Place) → found p ≡ false → p ≡ Nowhere
unfolding found
found_nowhere (At i) e = absurd (true≢false e)
found_nowhere Nowhere e = refl

module _ (ids : List ℕ) (r : ℕ) (is : r ≡ number (length ids) (spare ids)) where
  pub spare_at : r < length ids → spare ids ≡ At r
  spare_at = number_at (length ids) (spare ids) r is

  pub spare_nowhere : length ids ≤ r → spare ids ≡ Nowhere
  spare_nowhere = number_none (length ids) (spare ids) r is (spare_inside ids)
