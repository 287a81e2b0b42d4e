-- How many a mask has: its ones, and the length of its list.
use Rattle.std.specs.Prelude.{if◌then◌else◌}
use mathlib.Core.Path.{◌≡◌, refl, sym, ap, ap₂, ◌∙◌}
use mathlib.Core.Bool.{Bool, true, false}
use mathlib.Core.List.{List, [], ◌∷◌}
use Prim.Native.Nat.{ℕ, zero, suc, ◌+◌, ◌/◌, ◌%◌, ◌^◌, ◌<◌}
use native.Mathlib.Nat.{mod-lt, zero-lt-suc, add-zero, zero-add}
use native.Mathlib.Omega.{arith}
use lib.Arith.{lt-one}
use lib.Count.{ones, ones_step}
use lib.Dec.{eqb}
use lib.ListN.{length}
use Rattle.cols_spec.specs.Sets.{keep, upto, has, listed}
use Rattle.cols_spec.proofs.Digits.{has_zero, has_suc, half_lt_pow}

digit : Bool → ℕ
digit b = if b then 1 else 0

-- how many of the numbers below w pass
tally : (ℕ → Bool) → ℕ → ℕ
tally f zero = 0
tally f (suc w) = tally f w + digit (f w)

keep_upto : (f : ℕ → Bool) (w : ℕ) (rest : List ℕ) → length (keep f (upto w rest)) ≡ tally f w + length (keep f rest)
unfolding keep upto tally digit
keep_upto f zero rest = sym (zero-add (length (keep f rest)))
keep_upto f (suc w) rest = keep_upto f w (w ∷ rest) ∙ go (f w)
  where
    go : (b : Bool) → tally f w + length (if b then w ∷ keep f rest else keep f rest) ≡ tally f w + digit b + length (keep f rest)
    go true = omega arith
    go false = omega arith

-- the lowest first
tally_low : (f : ℕ → Bool) (w : ℕ) → tally f (suc w) ≡ digit (f 0) + tally (λ k. f (suc k)) w
unfolding tally
tally_low f zero = omega arith
tally_low f (suc w) = let r = tally_low f w in omega arith

tally_same : (f g : ℕ → Bool) → ((k : ℕ) → f k ≡ g k) → (w : ℕ) → tally f w ≡ tally g w
unfolding tally
tally_same f g e zero = refl
tally_same f g e (suc w) = ap₂ (λ (x y : ℕ). x + y) (tally_same f g e w) (ap digit (e w))

digit_odd : (x : ℕ) → x < 2 → digit (eqb x 1) ≡ x
unfolding digit
digit_odd zero h = refl
digit_odd (suc zero) h = refl
digit_odd (suc (suc x)) h = absurd (omega arith)

ones_tally : (w m : ℕ) → m < 2 ^ w → ones m ≡ tally (has m) w
unfolding tally ones
ones_tally zero m h = ap ones (lt-one h)
ones_tally (suc w) m h =
    ones_step m
    ∙ ap₂ (λ (x y : ℕ). x + y)
    (sym (ap digit (has_zero m) ∙ digit_odd (m % 2) (mod-lt m (zero-lt-suc 1))))
    (ones_tally w (m / 2) (half_lt_pow w h) ∙ tally_same (has (m / 2)) (λ k. has m (suc k)) (λ k. sym (has_suc m k)) w)
    ∙ sym (tally_low (has m) w)

pub ones_listed : (w m : ℕ) → m < 2 ^ w → ones m ≡ length (listed w m)
unfolding listed keep
ones_listed w m h = ones_tally w m h ∙ sym (keep_upto (has m) w [] ∙ add-zero (tally (has m) w))
