-- A list's first ids. Assumes nothing.
use mathlib.Core.Path.{◌≡◌, refl, sym, ap, ◌∙◌}
use mathlib.Core.Bool.{Bool, true, false}
use mathlib.Core.List.{List}
use Prim.Native.Nat.{ℕ, ◌≤◌, min}
use native.Mathlib.Nat.{min-eq_left, min-eq_right, min-le_right}
use native.Mathlib.Omega.{arith}
use borrow.Author.Tests.{ltb-true, ltb-false}
use lib.Dec.{ltb}
use lib.ListN.{length, take, length-take}
use lib.Seq.{take_all}

pub take_least : (xs : List ℕ) (count n r : ℕ) → n ≡ length xs → r ≡ min count n → take r xs ≡ take count xs
take_least xs count n r l e = go (ltb count n) refl
  where
    go : (b : Bool) → ltb count n ≡ b → take r xs ≡ take count xs
    go true q = ap (λ (k : ℕ). take k xs) (e ∙ min-eq_left (omega (arith, ltb-true count n q)))
    go false q =
        ap (λ (k : ℕ). take k xs) (e ∙ min-eq_right (ltb-false count n q))
        ∙ take_all n xs (omega arith) ∙ sym (take_all count xs (omega (arith, ltb-false count n q)))

pub least_le : (count n r : ℕ) → r ≡ min count n → r ≤ n
least_le count n r e = omega (arith, min-le_right count n)

pub take_count : (xs : List ℕ) (n r : ℕ) → n ≡ length xs → r ≤ n → r ≡ length (take r xs)
take_count xs n r e h =
    let l : r ≤ length xs = omega arith in
    sym (length-take r xs ∙ min-eq_left l)
