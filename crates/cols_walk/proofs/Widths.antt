-- Places looked at together: those that no cell of a run is k are passed. Assumes nothing.
use mathlib.Core.Path.{◌≡◌, refl, ◌∙◌}
use mathlib.Core.List.{List, [], ◌∷◌}
use Prim.Native.Nat.{ℕ, zero, suc, ◌+◌, ◌≤◌, ◌<◌}
use native.Mathlib.Nat.{add-zero, add-suc}
use native.Mathlib.Omega.{arith}
use lib.ListN.{length, get_or, take, drop, length-take, length-drop}
use Rattle.cols_spec.specs.Places.{first}
use Rattle.std.proofs.lemmas.List.{get_or-take, get_or-drop}
use Rattle.std.specs.List.{list_any}
use lib.Dec.{eqb}
use Rattle.cols_spec.specs.Sets.{member, any}
use Rattle.cols_spec.proofs.Digits.{eqb_sym}
use Rattle.cols_spec.proofs.Places.{first_miss}

-- no cell of a run is k, so all are passed
pub first_past : (cells : List ℕ) (i n k : ℕ) → i + n ≤ length cells → ((j : ℕ) → j < n → get_or cells (i + j) 0 ≡ k → ⊥)
    → first i k (drop i cells) ≡ first (i + n) k (drop (i + n) cells)
first_past cells i zero k h f = rw (add-zero i)
first_past cells i (suc n) k h f =
    rw (add-suc i n) (first_past cells i n k (omega arith) (λ j l. f j (omega arith)) ∙ first_miss cells k (i + n) (omega arith) (f n (omega arith)))

-- a part of the cells has no k, so none of the cells at its places is k
pub part_has_none : (cells : List ℕ) (i n k : ℕ) → i + n ≤ length cells
    → ((j : ℕ) → j < length (take n (drop i cells)) → get_or (take n (drop i cells)) j 0 ≡ k → ⊥)
    → (j : ℕ) → j < n → get_or cells (i + j) 0 ≡ k → ⊥
part_has_none cells i n k h f j l e =
    f j (omega (arith, length-take n (drop i cells), length-drop i cells)) (get_or-take n (drop i cells) j 0 l ∙ get_or-drop i cells j 0 ∙ e)

-- the library's test whether a list has an element
pub contained : (x : ℕ) (xs : List ℕ) → list_any (λ y. eqb y x) xs ≡ member x xs
unfolding member any
contained x [] = refl
contained x (y ∷ xs) = rw (eqb_sym y x, contained x xs)
