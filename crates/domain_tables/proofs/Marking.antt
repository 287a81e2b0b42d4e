-- The places of listed users, as a mask to which the place of one user more is added at a time. Assumes nothing.
use mathlib.Core.Path.{◌≡◌, refl, sym, ap, ◌∙◌}
use mathlib.Core.Bool.{Bool, true, false, ◌||◌, or-false}
use mathlib.Core.List.{List, [], ◌∷◌, ◌++◌}
use Prim.Native.Nat.{ℕ, ◌<◌, zero-le}
use native.Mathlib.Omega.{arith}
use borrow.Author.Tests.{ne_eqb}
use lib.Dec.{eqb}
use Rattle.cols_spec.specs.Sets.{any, has, with, seats}
use Rattle.cols_spec.specs.Places.{Place, At, Nowhere, find, number}
use Rattle.cols_spec.proofs.Digits.{has_high, has_with, has_those, is_those, those_lt}
use Rattle.domain.specs.Tables.{Users}
use Rattle.domain.specs.Channels.{stands, places}

any_end : (f : ℕ → Bool) (xs : List ℕ) (x : ℕ) → any f (xs ++ x ∷ []) ≡ (any f xs || f x)
unfolding any
any_end f [] x = or-false (f x)
any_end f (y ∷ xs) x = go (f y) (any_end f xs x)
  where
    go : (b : Bool) → any f (xs ++ x ∷ []) ≡ (any f xs || f x) → (b || any f (xs ++ x ∷ [])) ≡ ((b || any f xs) || f x)
    go true e = refl
    go false e = e

-- a place as the code's number; 64 marks nothing
stands_number : (w : Place) (j : ℕ) → j < 64 → eqb (number 64 w) j ≡ stands j w
unfolding number
stands_number (At i) j h = refl
stands_number Nowhere j h = ne_eqb 64 j (λ e. omega arith)

pub places_none : (us : Users) → 0 ≡ places us []
unfolding places any
places_none us = is_those seats 0 (λ i. false) (omega arith) (λ k h. has_high 0 0 k (omega arith) zero-le)

module _ (us : Users) (xs : List ℕ) (x m r : ℕ) (is : m ≡ places us xs) (at : r ≡ number 64 (find us.ids x)) where
  pub places_more : with seats m r ≡ places us (xs ++ x ∷ [])
  unfolding places with
  places_more = is_those seats (with seats m r) (λ i. any (λ u. stands i (find us.ids u)) (xs ++ x ∷ [])) (those_lt seats _) (λ k h.
      has_with seats r k h m
      ∙ ap (λ (b : Bool). b || eqb r k) (ap (λ (n : ℕ). has n k) is ∙ has_those seats (λ i. any (λ u. stands i (find us.ids u)) xs) k h)
      ∙ ap (λ (b : Bool). any (λ u. stands k (find us.ids u)) xs || b) (ap (λ (n : ℕ). eqb n k) at ∙ stands_number (find us.ids x) k h)
      ∙ sym (any_end (λ u. stands k (find us.ids u)) xs x))
