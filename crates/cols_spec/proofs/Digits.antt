-- Laws of masks: a mask is known by what it has.
use Rattle.std.specs.Prelude.{if◌then◌else◌}
use mathlib.Core.Path.{◌≡◌, refl, sym, ap, ap₂, ◌∙◌, subst}
use mathlib.Core.Bool.{Bool, true, false, not, ◌&&◌, ◌||◌, true≢false, false≢true}
use Prim.Native.Nat.{ℕ, zero, suc, ◌+◌, ◌*◌, ◌/◌, ◌%◌, ◌^◌, ◌≤◌, ◌<◌, suc-le-suc, min, max, zero-le}
use native.Mathlib.Nat.{le_of_suc-le-suc, not-suc-le-zero, zero-lt-suc, div-one, mod-lt, pow-suc, div-add-mod', zero-add, suc-add, add-suc, add-zero, div-lt_iff_lt-mul, div-eq_of_lt, lt_of_lt_of_le, mul-mod_left, mul-div_cancel, one-mul}
use native.Mathlib.Omega.{arith}
use lib.Arith.{digits_lt, digits_div, digits_mod, lt-one}
use lib.Pow.{shr-shr, shl_exact, pow_mono, pow-lt, pow_pos}
use lib.Bits.{bit_and, bit_or, bit_xor, differ, and_step, or_step, xor_step, and_lt, or_lt, xor_lt}
use lib.Dec.{eqb, eqb-zero-suc, eqb-suc-zero, eqb-suc-suc}
use borrow.Author.Tests.{eq-eqb, ne_eqb, eqb-true, eqb-false}
use Rattle.cols_spec.specs.Sets.{has, those, those_from, with, without, minus, meet, union, only}

digit : Bool → ℕ
digit b = if b then 1 else 0

digit_lt : (b : Bool) → digit b < 2
unfolding digit
digit_lt true = omega arith
digit_lt false = omega arith

digit_is : (b : Bool) → eqb (digit b) 1 ≡ b
unfolding digit
digit_is true = refl
digit_is false = refl

pub has_zero : (m : ℕ) → has m 0 ≡ eqb (m % 2) 1
unfolding has
has_zero m = ap (λ (x : ℕ). eqb (x % 2) 1) (div-one m)

pub has_suc : (m k : ℕ) → has m (suc k) ≡ has (m / 2) k
unfolding has
has_suc m k = ap (λ (x : ℕ). eqb (x % 2) 1) (sym (shr-shr m 1 k ∙ ap (λ (j : ℕ). m / 2 ^ j) (suc-add 0 k ∙ ap suc (zero-add k))))

pub has_from : (i w : ℕ) (f : ℕ → Bool) (k : ℕ) → k < w → has (those_from i w f) k ≡ f (i + k)
unfolding those_from digit
has_from i zero f k h = absurd (not-suc-le-zero h)
has_from i (suc w) f zero h =
    has_zero _ ∙ ap (λ (x : ℕ). eqb x 1) (digits_mod (those_from (suc i) w f) (digit_lt (f i))) ∙ digit_is (f i) ∙ ap f (sym (add-zero i))
has_from i (suc w) f (suc k) h =
    has_suc _ k ∙ ap (λ (x : ℕ). has x k) (digits_div (those_from (suc i) w f) (digit_lt (f i)))
    ∙ has_from (suc i) w f k (le_of_suc-le-suc h) ∙ ap f (suc-add i k ∙ sym (add-suc i k))

pub from_lt : (i w : ℕ) (f : ℕ → Bool) → those_from i w f < 2 ^ w
unfolding those_from digit
from_lt i zero f = omega arith
from_lt i (suc w) f = subst (λ (x : ℕ). those_from i (suc w) f < x) (sym (pow-suc 2 w)) (digits_lt (from_lt (suc i) w f) (digit_lt (f i)))

-- a mask of w digits has those that pass
pub has_those : (w : ℕ) (f : ℕ → Bool) (k : ℕ) → k < w → has (those w f) k ≡ f k
unfolding those
has_those w f k h = has_from 0 w f k h ∙ ap f (zero-add k)

pub those_lt : (w : ℕ) (f : ℕ → Bool) → those w f < 2 ^ w
unfolding those
those_lt w f = from_lt 0 w f

odd_eq : (m n : ℕ) → m < 2 → n < 2 → eqb m 1 ≡ eqb n 1 → m ≡ n
odd_eq zero zero hm hn e = refl
odd_eq zero (suc zero) hm hn e = absurd (false≢true e)
odd_eq zero (suc (suc n)) hm hn e = absurd (omega arith)
odd_eq (suc zero) zero hm hn e = absurd (true≢false e)
odd_eq (suc zero) (suc zero) hm hn e = refl
odd_eq (suc zero) (suc (suc n)) hm hn e = absurd (omega arith)
odd_eq (suc (suc m)) n hm hn e = absurd (omega arith)

pub half_lt_pow : {a : ℕ} (k : ℕ) → a < 2 ^ suc k → a / 2 < 2 ^ k
half_lt_pow {a} k h = (div-lt_iff_lt-mul (zero-lt-suc 1)).1 (subst (λ (x : ℕ). a < x) (pow-suc 2 k) h)

-- two masks of w digits that have the same are equal
pub mask_ext : (w m n : ℕ) → m < 2 ^ w → n < 2 ^ w → ((k : ℕ) → k < w → has m k ≡ has n k) → m ≡ n
mask_ext zero m n hm hn h = lt-one hm ∙ sym (lt-one hn)
mask_ext (suc w) m n hm hn h =
    sym (div-add-mod' m 2)
    ∙ ap₂ (λ (x y : ℕ). x * 2 + y)
    (mask_ext w (m / 2) (n / 2) (half_lt_pow w hm) (half_lt_pow w hn) (λ k b. sym (has_suc m k) ∙ h (suc k) (suc-le-suc b) ∙ has_suc n k))
    (odd_eq (m % 2) (n % 2) (mod-lt m (zero-lt-suc 1)) (mod-lt n (zero-lt-suc 1)) (sym (has_zero m) ∙ h 0 (zero-lt-suc w) ∙ has_zero n))
    ∙ div-add-mod' n 2

-- a number of w digits that has those that pass is their mask
pub is_those : (w m : ℕ) (f : ℕ → Bool) → m < 2 ^ w → ((k : ℕ) → k < w → has m k ≡ f k) → m ≡ those w f
is_those w m f l h = mask_ext w m (those w f) l (those_lt w f) (λ k b. h k b ∙ sym (has_those w f k b))

-- a mask of w digits has nothing from w on
pub has_high : (w m k : ℕ) → m < 2 ^ w → w ≤ k → has m k ≡ false
unfolding has
has_high w m k hm hk = ap (λ (x : ℕ). eqb (x % 2) 1) (div-eq_of_lt (lt_of_lt_of_le hm (pow_mono hk)))

-- ---- an operation digit by digit: `f` of the lowest digits is one, and is 1 where the test `t` of them is true
module _ (op f : ℕ → ℕ → ℕ) (t : Bool → Bool → Bool) (step : (a b : ℕ) → op a b ≡ op (a / 2) (b / 2) * 2 + f (a % 2) (b % 2)) where
  abbrev Digit : ℕ → ℕ → Type 0
  Digit x y = (f x y < 2) × (eqb (f x y) 1 ≡ t (eqb x 1) (eqb y 1))

  module _ (oo : Digit 0 0) (oi : Digit 0 1) (io : Digit 1 0) (ii : Digit 1 1) where
    digit_of : (x y : ℕ) → x < 2 → y < 2 → Digit x y
    digit_of zero zero hx hy = oo
    digit_of zero (suc zero) hx hy = oi
    digit_of (suc zero) zero hx hy = io
    digit_of (suc zero) (suc zero) hx hy = ii
    digit_of zero (suc (suc y)) hx hy = absurd (omega arith)
    digit_of (suc zero) (suc (suc y)) hx hy = absurd (omega arith)
    digit_of (suc (suc x)) y hx hy = absurd (omega arith)

    lowest : (a b : ℕ) → Digit (a % 2) (b % 2)
    lowest a b = digit_of (a % 2) (b % 2) (mod-lt a (zero-lt-suc 1)) (mod-lt b (zero-lt-suc 1))

    has_op : (a b k : ℕ) → has (op a b) k ≡ t (has a k) (has b k)
    has_op a b zero =
        has_zero (op a b)
        ∙ ap (λ (x : ℕ). eqb x 1) (ap (λ (x : ℕ). x % 2) (step a b) ∙ digits_mod (op (a / 2) (b / 2)) (lowest a b).0)
        ∙ (lowest a b).1 ∙ ap₂ t (sym (has_zero a)) (sym (has_zero b))
    has_op a b (suc k) =
        has_suc (op a b) k
        ∙ ap (λ (x : ℕ). has x k) (ap (λ (x : ℕ). x / 2) (step a b) ∙ digits_div (op (a / 2) (b / 2)) (lowest a b).0)
        ∙ has_op (a / 2) (b / 2) k ∙ ap₂ t (sym (has_suc a k)) (sym (has_suc b k))

one_of : Bool → Bool → Bool
one_of true b = not b
one_of false b = b

pub has_or : (a b k : ℕ) → has (bit_or a b) k ≡ (has a k || has b k)
has_or = has_op bit_or max (λ x y. x || y) or_step (omega arith, refl) (omega arith, refl) (omega arith, refl) (omega arith, refl)

pub has_and : (a b k : ℕ) → has (bit_and a b) k ≡ (has a k && has b k)
has_and = has_op bit_and min (λ x y. x && y) and_step (omega arith, refl) (omega arith, refl) (omega arith, refl) (omega arith, refl)

has_xor : (a b k : ℕ) → has (bit_xor a b) k ≡ one_of (has a k) (has b k)
unfolding one_of
has_xor = has_op bit_xor differ one_of xor_step (omega arith, refl) (omega arith, refl) (omega arith, refl) (omega arith, refl)

one_has : has 1 0 ≡ true
unfolding has
one_has = refl

-- the mask of one digit
pub has_pow : (j k : ℕ) → has (2 ^ j) k ≡ eqb k j
has_pow zero zero = one_has
has_pow zero (suc k) = has_suc 1 k ∙ has_high 0 0 k (omega arith) zero-le ∙ sym (eqb-suc-zero k)
has_pow (suc j) zero = has_zero (2 ^ suc j) ∙ ap (λ (x : ℕ). eqb x 1) (ap (λ (x : ℕ). x % 2) (pow-suc 2 j) ∙ mul-mod_left (2 ^ j) 2) ∙ sym (eqb-zero-suc j)
has_pow (suc j) (suc k) =
    has_suc (2 ^ suc j) k ∙ ap (λ (x : ℕ). has x k) (ap (λ (x : ℕ). x / 2) (pow-suc 2 j) ∙ mul-div_cancel (2 ^ j) (zero-lt-suc 1)) ∙ has_pow j k ∙ sym (eqb-suc-suc k j)

pub eqb_sym : (a b : ℕ) → eqb a b ≡ eqb b a
eqb_sym a b = go (eqb a b) refl
  where
    go : (x : Bool) → eqb a b ≡ x → eqb a b ≡ eqb b a
    go true e = e ∙ sym (eq-eqb b a (sym (eqb-true a b e)))
    go false e = e ∙ sym (ne_eqb b a (λ q. eqb-false a b e (sym q)))

-- ---- what the code computes is the mask that the definitions say
and_one_of : (a b : Bool) → (a && one_of a b) ≡ (a && not b)
unfolding one_of
and_one_of true b = refl
and_one_of false b = refl

module _ (w m n : ℕ) (hm : m < 2 ^ w) (hn : n < 2 ^ w) where
  pub or_union : bit_or m n ≡ union w m n
  unfolding union
  or_union = is_those w (bit_or m n) _ (or_lt w m n hm hn) (λ k b. has_or m n k)

  pub and_meet : bit_and m n ≡ meet w m n
  unfolding meet
  and_meet = is_those w (bit_and m n) _ (and_lt w m n hm hn) (λ k b. has_and m n k)

  pub and_minus : bit_and m (bit_xor m n) ≡ minus w m n
  unfolding minus
  and_minus = is_those w (bit_and m (bit_xor m n)) _ (and_lt w m (bit_xor m n) hm (xor_lt w m n hm hn))
      (λ k b. has_and m (bit_xor m n) k ∙ ap (λ (x : Bool). has m k && x) (has_xor m n k) ∙ and_one_of (has m k) (has n k))

pub only_lt : (w k : ℕ) → only w k < 2 ^ w
unfolding only
only_lt w k = those_lt w (eqb k)

-- ---- with one more, one alone, without one
module _ (w i j : ℕ) (hj : j < w) where
  pub has_with : (us : ℕ) → has (with w us i) j ≡ (has us j || eqb i j)
  unfolding with
  has_with us = has_those w _ j hj ∙ ap (λ (b : Bool). has us j || b) (eqb_sym j i)

  pub has_only : has (only w i) j ≡ eqb i j
  unfolding only
  has_only = has_those w (eqb i) j hj

  pub has_without : (us : ℕ) → has (without w us i) j ≡ (has us j && not (eqb i j))
  unfolding without
  has_without us = has_those w _ j hj ∙ ap (λ (b : Bool). has us j && not b) (eqb_sym j i)

-- one alone, as the code has it: a power of two, or 0 from the width on
pub pow_only : (w k : ℕ) → k < w → 2 ^ k ≡ only w k
unfolding only
pow_only w k h = is_those w (2 ^ k) (eqb k) (pow-lt h) (λ j b. has_pow k j ∙ eqb_sym j k)

pub none_only : (w k : ℕ) → w ≤ k → 0 ≡ only w k
unfolding only
none_only w k h = is_those w 0 (eqb k) (pow_pos w) (λ j b. has_high 0 0 j (zero-lt-suc 0) zero-le ∙ sym (ne_eqb k j (λ e. omega arith)))

-- one more and one less, by the mask of that one alone
pub union_only : (w m k : ℕ) → union w m (only w k) ≡ with w m k
unfolding union with
union_only w m k =
    is_those w (union w m (only w k)) _ (those_lt w _) (λ j b. has_those w _ j b ∙ ap (λ (x : Bool). has m j || x) (has_only w k j b ∙ eqb_sym k j))

pub minus_only : (w m k : ℕ) → minus w m (only w k) ≡ without w m k
unfolding minus without
minus_only w m k =
    is_those w (minus w m (only w k)) _ (those_lt w _) (λ j b. has_those w _ j b ∙ ap (λ (x : Bool). has m j && not x) (has_only w k j b ∙ eqb_sym k j))

-- the code's shift
pub shl_only : (w k : ℕ) → k < w → (1 * 2 ^ k) % 2 ^ w ≡ only w k
shl_only w k h = shl_exact {a = 1} 1 k w (omega arith) (omega arith) ∙ one-mul (2 ^ k) ∙ pow_only w k h

-- what an operation on numbers, or 0, is as a mask
pub ruleset by_digits = (or_union, and_meet, and_minus, none_only)
