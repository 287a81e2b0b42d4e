-- The bits at a place: what `left_at`, `bits_at` and `take_bits` compute. Assumes nothing.
use mathlib.Core.Path.{◌≡◌, refl, sym, ap, ◌∙◌, subst}
use mathlib.Core.List.{List}
use Prim.Native.Nat.{ℕ, zero, suc, ◌+◌, ◌-◌, ◌*◌, ◌/◌, ◌%◌, ◌^◌, ◌<◌, ◌≤◌}
use native.Mathlib.Nat.{one-mul, mod-one, mod-le, mul-add-mod_self_right, mul_assoc, sub-add_cancel, add-sub_of_le}
use native.Mathlib.Omega.{arith}
use lib.ListN.{length, get_or, drop_of_length-le, drop}
use lib.Pow.{pow_pos, pow-add, shl_exact, mod-mod-pow}
use borrow.Author.Tests.{le-leb, lt-leb}
use Rattle.codec_octets.specs.Bits.{take_bits, after}
use Rattle.codec_octets.specs.Places.{left_at, bits_at, behind, Bitwise}
use Rattle.codec_octets.specs.declared.refusal.Refusal.TheVariants.{BadEncoding}
use Rattle.std.specs.Prelude.{Ok, Err}
use Rattle.codec_octets.proofs.Reading.{octet_at}

power : (k : ℕ) → k < 8 → (1 * 2 ^ k) % 4294967296 ≡ 2 ^ k
power k h = shl_exact {a = 1} 1 k 32 (omega arith) (omega arith) ∙ one-mul (2 ^ k)

pub power_pos : (k : ℕ) → k < 8 → 0 < (1 * 2 ^ k) % 4294967296
power_pos k h = rw (power k h) (pow_pos k)

pub bits_none : (s : List ℕ) (at left : ℕ) → left ≡ left_at at → left ≡ 0 → (0 ≡ bits_at s at) × (0 < 256)
unfolding bits_at
bits_none s at left e z = (rw (← e, z) (sym (mod-one (get_or s (at / 8) 0))), omega arith)

pub bits_some : (s : List ℕ) (at left o : ℕ) → left ≡ left_at at → left < 8 → o ≡ get_or s (at / 8) 0 → o < 256
    → (o % ((1 * 2 ^ left) % 4294967296) ≡ bits_at s at) × (o % ((1 * 2 ^ left) % 4294967296) < 256)
unfolding bits_at
bits_some s at left o e h f b = (rw (power left h, e, f), omega (arith, mod-le o ((1 * 2 ^ left) % 4294967296)))

-- the low bits, of what is left and of an octet behind more
low_low : (x left w : ℕ) → w ≤ left → x % 2 ^ left % 2 ^ (left - w) ≡ x % 2 ^ (left - w)
low_low x left w h = subst (λ k. x % 2 ^ k % 2 ^ (left - w) ≡ x % 2 ^ (left - w)) (add-sub_of_le h) (mod-mod-pow x w (left - w))

low_octet : (b o l : ℕ) → l ≤ 8 → (b * 256 + o) % 2 ^ l ≡ o % 2 ^ l
low_octet b o l h =
    let p : b * 256 ≡ b * 2 ^ (8 - l) * 2 ^ l = rw mul_assoc (ap (λ k. b * k) (subst (λ k. 2 ^ k ≡ 2 ^ (8 - l) * 2 ^ l) (sub-add_cancel h) (pow-add 2 (8 - l) l))) in
    rw (p, mul-add-mod_self_right (b * 2 ^ (8 - l)) (2 ^ l) o)

-- where a code ends, within the octet begun and across its end
module _ (at w : ℕ) where
  pub left_within : w ≤ left_at at → left_at (at + w) ≡ left_at at - w
  unfolding left_at
  left_within h = omega arith

  pub next_within : w ≤ left_at at → (at + w + 7) / 8 ≡ (at + 7) / 8
  unfolding left_at
  next_within h = omega arith

  pub index_within : w < left_at at → (at + w) / 8 ≡ at / 8
  unfolding left_at
  index_within h = omega arith

  module _ (h : left_at at < w) (width : w ≤ 8) where
    pub next_across : (at + w + 7) / 8 ≡ (at + 7) / 8 + 1
    unfolding left_at
    next_across = omega arith

    pub index_across : 0 < left_at at + 8 - w → (at + w) / 8 ≡ (at + 7) / 8
    unfolding left_at
    index_across p = omega arith

    pub left_across : left_at (at + w) ≡ left_at at + 8 - w
    unfolding left_at
    left_across = omega arith

ends_within : (at w n : ℕ) → at ≤ n * 8 → w ≤ left_at at → at + w ≤ n * 8
unfolding left_at
ends_within at w n i h = omega arith

ends_across : (at w n : ℕ) → (at + 7) / 8 < n → w ≤ 8 → at + w ≤ n * 8
ends_across at w n k h = omega arith

rest_within : (s : List ℕ) (at w : ℕ) → w ≤ left_at at → bits_at s (at + w) ≡ bits_at s at % 2 ^ (left_at at - w)
unfolding bits_at
rest_within s at w h = rw (left_within at w h) (go (left_at at - w) refl)
  where
    go : (d : ℕ) → left_at at - w ≡ d → get_or s ((at + w) / 8) 0 % 2 ^ (left_at at - w) ≡ get_or s (at / 8) 0 % 2 ^ left_at at % 2 ^ (left_at at - w)
    go zero e = rw e (mod-one _ ∙ sym (mod-one _))
    go (suc d) e = rw (index_within at w (omega arith)) (sym (low_low (get_or s (at / 8) 0) (left_at at) w h))

rest_across : (s : List ℕ) (at w b : ℕ) → left_at at < w → w ≤ 8 → bits_at s (at + w) ≡ (b * 256 + get_or s ((at + 7) / 8) 0) % 2 ^ (left_at at + 8 - w)
unfolding bits_at
rest_across s at w b h width = rw (left_across at w h width) (go (left_at at + 8 - w) refl)
  where
    go : (d : ℕ) → left_at at + 8 - w ≡ d
        → get_or s ((at + w) / 8) 0 % 2 ^ (left_at at + 8 - w) ≡ (b * 256 + get_or s ((at + 7) / 8) 0) % 2 ^ (left_at at + 8 - w)
    go zero e = rw e (mod-one _ ∙ sym (mod-one _))
    go (suc d) e =
        rw (index_across at w h width (omega arith)) (sym (low_octet b (get_or s ((at + 7) / 8) 0) (left_at at + 8 - w) (omega arith)))

-- what `take_bits` answers
module _ (s : List ℕ) (at w left bits : ℕ) (inside : at ≤ length s * 8) (width : w ≤ 8) (e : left ≡ left_at at) (f : bits ≡ bits_at s at) where
  pub bits_within : w ≤ left → Bitwise s (after w (left_at at)) (Ok (record { value = bits / 2 ^ (left - w); next = at + w })) (take_bits w (left_at at) (bits_at s at) (behind s at))
  unfolding take_bits behind
  bits_within g =
      let h : w ≤ left_at at = rw e at g in
      rw (e, f)
      (record {
        same = simp (le-leb w (left_at at) h, rest_within s at w h, next_within at w h);
        leaves = simp (le-leb w (left_at at) h) (left_within at w h);
        inside = ends_within at w (length s) inside h;
      })

  pub bits_short : left < w → length s ≤ (at + 7) / 8 → Bitwise s (after w (left_at at)) (Err BadEncoding) (take_bits w (left_at at) (bits_at s at) (behind s at))
  unfolding take_bits behind
  bits_short g k = record { same = simp (lt-leb w (left_at at) (rw e at g), drop_of_length-le s k); leaves = tt; inside = tt }

  pub bits_across : (o : ℕ) → left < w → (at + 7) / 8 < length s → o ≡ get_or s ((at + 7) / 8) 0
      → Bitwise s (after w (left_at at)) (Ok (record { value = (bits * 256 + o) / 2 ^ (left + 8 - w); next = at + w })) (take_bits w (left_at at) (bits_at s at) (behind s at))
  unfolding take_bits behind
  bits_across o g k p =
      let h : left_at at < w = rw e at g in
      rw (e, f, p)
      (record {
        same = simp (lt-leb w (left_at at) h, octet_at s ((at + 7) / 8) (get_or s ((at + 7) / 8) 0) k refl, rest_across s at w (bits_at s at) h width, next_across at w h width);
        leaves = simp (lt-leb w (left_at at) h) (left_across at w h width);
        inside = ends_across at w (length s) k width;
      })

-- a place on an octet
pub octet_left : (n : ℕ) → left_at (n * 8) ≡ 0
unfolding left_at
octet_left n = omega arith

pub octet_bits : (s : List ℕ) (n : ℕ) → bits_at s (n * 8) ≡ 0
unfolding bits_at
octet_bits s n = rw (octet_left n) (mod-one (get_or s (n * 8 / 8) 0))

pub octet_behind : (s : List ℕ) (n : ℕ) → behind s (n * 8) ≡ drop n s
unfolding behind
octet_behind s n = let e : (n * 8 + 7) / 8 ≡ n = omega arith in rw e
