-- A place in some octets: an octet, or a bit. What the functions of src/ answer there, as what the readers of Octets and Bits give.
use Rattle.std.specs.Prelude.{◌≡◌, cond, List, ◌∷◌, ◌++◌, ℕ, ◌+◌, ◌-◌, ◌*◌, ◌/◌, ◌%◌, ◌^◌, ◌≤◌, ◌<◌, eqb, leb, length, get_or, take, drop, Result, Ok, Err}
use Rattle.codec_octets.specs.Octets.{Read, got, no}
use Rattle.codec_octets.specs.Bits.{after, put_bits}
use Rattle.codec_octets.specs.declared.Got.{Got}
use Rattle.codec_octets.specs.declared.refusal.Refusal.{Refusal}
use Rattle.codec_octets.specs.declared.refusal.Refusal.TheVariants.{BadEncoding}
use Rattle.codec_octets.specs.Refusals.{refusal_number}

-- at a bit: how many bits of the octet begun are left, their value, and the octets behind them
unfoldable pub left_at : ℕ → ℕ
left_at at = (8 - at % 8) % 8

unfoldable pub bits_at : List ℕ → ℕ → ℕ
bits_at s at = get_or s (at / 8) 0 % 2 ^ left_at at

unfoldable pub behind : List ℕ → ℕ → List ℕ
behind s at = drop ((at + 7) / 8) s

-- a value and the octet behind it
abbrev pub at_octet : List ℕ → Result Got Refusal → Read ℕ
at_octet s (Ok g) = got g.value (drop g.next s)
at_octet s (Err r) = no (refusal_number r)

-- a value and the bit behind it
abbrev pub at_bit : List ℕ → Result Got Refusal → Read (ℕ × ℕ)
at_bit s (Ok g) = got (g.value, bits_at s g.next) (behind s g.next)
at_bit s (Err r) = no (refusal_number r)

-- where it ended, within the message, and with so many bits left
abbrev pub EndsAt : ℕ → Result Got Refusal → Type 0
EndsAt most (Ok g) = g.next ≤ most
EndsAt most (Err r) = Unit {0}

abbrev pub Leaves : ℕ → Result Got Refusal → Type 0
Leaves left (Ok g) = left_at g.next ≡ left
Leaves left (Err r) = Unit {0}

-- what was answered is what a reader gives of the octets there, and lies within them
pub record Octetwise (s : List ℕ) (r : Result Got Refusal) (spec : Read ℕ) : Type 0 where
  pub same : at_octet s r ≡ spec
  pub inside : EndsAt (length s) r

pub record Bitwise (s : List ℕ) (left : ℕ) (r : Result Got Refusal) (spec : Read (ℕ × ℕ)) : Type 0 where
  pub same : at_bit s r ≡ spec
  pub leaves : Leaves left r
  pub inside : EndsAt (length s * 8) r

-- a value up to its largest; a place counted in bits
abbrev pub capped_of : ℕ → Result Got Refusal → Result Got Refusal
capped_of most (Ok g) = cond (leb g.value most) (Ok g) (Err BadEncoding)
capped_of most (Err r) = Err r

abbrev pub in_bits : Result Got Refusal → Result Got Refusal
in_bits (Ok g) = Ok (record { value = g.value; next = g.next * 8 })
in_bits (Err r) = Err r

-- writing: the octets before a bit, with those of the octet begun that are written, and then what is still to come there
unfoldable pub placed : List ℕ → ℕ → ℕ × List ℕ → List ℕ
placed s at r = cond (eqb (left_at at) 0) (take (at / 8) s ++ r.1) (take (at / 8) s ++ (get_or s (at / 8) 0 + r.0) ∷ r.1)

-- nothing is written yet in what is left of an octet begun
unfoldable pub Clear : List ℕ → ℕ → Type 0
Clear s at = 0 < left_at at → get_or s (at / 8) 0 + 2 ^ left_at at ≤ 256

-- a code was written: what is to come behind it comes behind it there
pub record Puts (s : List ℕ) (at w v : ℕ) (s' : List ℕ) : Type 0 where
  pub same : (r : ℕ × List ℕ) → r.0 < 2 ^ after w (left_at at) → placed s' (at + w) r ≡ placed s at (put_bits w (left_at at) v r)
  pub size : length s' ≡ length s
  pub clear : Clear s' (at + w)
