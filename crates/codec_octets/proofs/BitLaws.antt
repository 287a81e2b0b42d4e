-- What is written is read back, and nothing else is read: of a code of some bits. Assumes nothing.
use mathlib.Core.Path.{◌≡◌, refl, subst}
use mathlib.Core.Bool.{Bool, true, false, cond}
use mathlib.Core.List.{List, [], ◌∷◌}
use Prim.Native.Nat.{ℕ, ◌+◌, ◌-◌, ◌*◌, ◌/◌, ◌%◌, ◌^◌, ◌<◌, ◌≤◌}
use native.Mathlib.Nat.{div-add-mod', div-lt_iff_lt-mul, add-sub_of_le}
use native.Mathlib.Omega.{arith}
use lib.Dec.{leb}
use lib.Arith.{digits_lt, digits_div, digits_mod}
use lib.Pow.{pow-add, high, low, split}
use borrow.Author.Tests.{leb-true}
use Rattle.codec_octets.specs.Octets.{got, ◌>>=◌, octet, Bytes}
use Rattle.codec_octets.proofs.OctetLaws.{refused}
use Rattle.codec_octets.specs.Bits.{after, put_bits, cut, take_bits}

cut_back : (l v b : ℕ) (os : List ℕ) → b < 2 ^ l → cut l (v * 2 ^ l + b) os ≡ got (v, b) os
cut_back l v b os h = simp (high v l h, low v l h)

pub bits_back : (w j v : ℕ) (r : ℕ × List ℕ) → r.0 < 2 ^ after w j → take_bits w j (put_bits w j v r).0 (put_bits w j v r).1 ≡ got (v, r.0) r.1
unfolding take_bits
bits_back w j v r h = go (leb w j) refl
  where
    go : (t : Bool) → leb w j ≡ t → take_bits w j (put_bits w j v r).0 (put_bits w j v r).1 ≡ got (v, r.0) r.1
    go true e = simp e (cut_back (j - w) v r.0 r.1 (simp e at h))
    go false e = simp (e, div-add-mod' (v * 2 ^ (j + 8 - w) + r.0) 256) (cut_back (j + 8 - w) v r.0 r.1 (simp e at h))

pub bits_bound : (w j v : ℕ) (r : ℕ × List ℕ) → w ≤ 8 → v < 2 ^ w → r.0 < 2 ^ after w j → (put_bits w j v r).0 < 2 ^ j
bits_bound w j v r n f h = go (leb w j) refl
  where
    go : (t : Bool) → leb w j ≡ t → (put_bits w j v r).0 < 2 ^ j
    go true e =
        let width : w + (j - w) ≡ j = add-sub_of_le (leb-true w j e) in
        simp e (subst (λ k. v * 2 ^ (j - w) + r.0 < 2 ^ k) width (rw pow-add (digits_lt f (simp e at h))))
    go false e =
        let width : w + (j + 8 - w) ≡ j + 8 = add-sub_of_le (omega arith) in
        let whole : v * 2 ^ (j + 8 - w) + r.0 < 2 ^ (j + 8) = subst (λ k. v * 2 ^ (j + 8 - w) + r.0 < 2 ^ k) width (rw pow-add (digits_lt f (simp e at h))) in
        simp e ((div-lt_iff_lt-mul {k = 256} (omega arith)).1 (rw (pow-add 2 j 8) at whole))

pub bits_only : (w j b : ℕ) (t : ℕ × ℕ) (xs os : List ℕ) → Bytes xs → take_bits w j b xs ≡ got t os
    → Bytes os × ◌≡◌ {A = ℕ × List ℕ} (b, xs) (put_bits w j t.0 (t.1, os))
unfolding take_bits
bits_only w j b t xs os y e = go (leb w j) refl xs y e
  where
    go : (s : Bool) → leb w j ≡ s → (zs : List ℕ) → Bytes zs
        → cond s (cut (cond s (j - w) (j + 8 - w)) b) (octet >>= λ o. cut (cond s (j - w) (j + 8 - w)) (b * 256 + o)) zs ≡ got t os
        → Bytes os × ◌≡◌ {A = ℕ × List ℕ} (b, zs) (put_bits w j t.0 (t.1, os))
    go true s zs y e =
        let p : ◌≡◌ {A = ℕ × ℕ} (b / 2 ^ (j - w), b % 2 ^ (j - w)) t = cc in
        let q : zs ≡ os = cc in
        rw (← p, ← q) (y, simp (s, split b (j - w)))
    go false s [] y e = absurd (refused e)
    go false s (o ∷ zs) y e =
        let n : ℕ = b * 256 + o in
        let p : ◌≡◌ {A = ℕ × ℕ} (n / 2 ^ (j + 8 - w), n % 2 ^ (j + 8 - w)) t = cc in
        let q : zs ≡ os = cc in
        rw (← p, ← q) (y.1, simp (s, split n (j + 8 - w), digits_div b y.0, digits_mod b y.0))
