-- A field at a bit of any octets: 4 above 1,024 of them, 5 behind their end.
use Rattle.std.specs.Prelude.{cond, List, ℕ, ◌*◌, leb, length, Result}
use Rattle.codec_table.specs.Limits.{message_limit}
use Rattle.codec_octets.specs.Octets.{Read, no}
use Rattle.codec_table.specs.Messages.{Field}
use Rattle.codec_table.specs.Codec.{left_after, take_field}
use Rattle.codec_octets.specs.Places.{left_at, bits_at, behind, Bitwise}
use Rattle.codec_octets.specs.declared.Got.{Got}
use Rattle.codec_octets.specs.declared.refusal.Refusal.{Refusal}

unfoldable pub field_at : List ℕ → ℕ → Field → Read (ℕ × ℕ)
field_at s at f =
    cond (leb (length s) message_limit) (cond (leb at (length s * 8)) (take_field f (left_at at) (bits_at s at) (behind s at)) (no 5)) (no 4)

abbrev pub FieldAt : List ℕ → ℕ → Field → Result Got Refusal → Type 0
FieldAt s at f g = Bitwise s (left_after f (left_at at)) g (field_at s at f)
