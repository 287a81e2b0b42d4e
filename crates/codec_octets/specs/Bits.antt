-- The codes of some bits (X.691). Within an octet that is begun, `left` bits are left; a writer gives their value with the octets behind, and
-- a reader is handed both.
use Rattle.std.specs.Prelude.{cond, List, ◌∷◌, ℕ, ◌+◌, ◌-◌, ◌*◌, ◌/◌, ◌%◌, ◌^◌, leb}
use Rattle.codec_octets.specs.Octets.{Reader, ◌>>=◌, give, octet}

-- the bits left behind a code of this width: its last bit may lie in the next octet
abbrev pub after : ℕ → ℕ → ℕ
after width left = cond (leb width left) (left - width) (left + 8 - width)

-- a code written before the bits left and the octets behind them
abbrev pub put_bits : ℕ → ℕ → ℕ → ℕ × List ℕ → ℕ × List ℕ
put_bits width left v r =
    let n : ℕ = v * 2 ^ after width left + r.0 in
    cond (leb width left) (n, r.1) (n / 256, n % 256 ∷ r.1)

abbrev pub cut : ℕ → ℕ → Reader (ℕ × ℕ)
cut behind n = give (n / 2 ^ behind, n % 2 ^ behind)

-- the value of the next bits, with the value of those left behind it
unfoldable pub take_bits : ℕ → ℕ → ℕ → Reader (ℕ × ℕ)
take_bits width left bits =
    cond (leb width left) (cut (after width left) bits) (octet >>= λ o. cut (after width left) (bits * 256 + o))
