-- How many octets a length and an integer take: for what is measured and for what is written. Assumes nothing.
use mathlib.Core.Path.{◌≡◌, refl, ap, ◌∙◌}
use Prim.Native.Nat.{ℕ, zero, suc, ◌+◌, ◌%◌, ◌^◌, ◌<◌, ◌≤◌}
use native.Mathlib.Omega.{arith}
use lib.ListN.{length, length-append}
use borrow.Author.Tests.{le-ltb, lt-ltb}
use Rattle.codec_octets.specs.Octets.{octets_of, length_octets, size, write_item, a_number}
use Rattle.codec_octets.proofs.OctetLaws.{size_holds}

pub length_octets_lem : (k v : ℕ) → length (octets_of k v) ≡ k
length_octets_lem zero v = refl
length_octets_lem (suc k) v = ap suc (length_octets_lem k (v % 256 ^ k))

-- a length in one octet and in two
pub length_one : (n : ℕ) → n < 128 → length (length_octets n) ≡ 1
length_one n h = rw (lt-ltb n 128 h)

pub length_two : (n : ℕ) → 128 ≤ n → length (length_octets n) ≡ 2
length_two n h = rw (le-ltb n 128 h)

-- an integer
pub number_length : (v : ℕ) → v < 4294967296 → length (write_item a_number v) ≡ 1 + size v
number_length v h =
    let few : (v < 256 ^ size v) × (0 < size v) × (size v ≤ 4) = size_holds v h in
    length-append (length_octets (size v)) (octets_of (size v) v) ∙ rw (length_one (size v) (omega arith), length_octets_lem)
