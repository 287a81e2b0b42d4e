-- Writing a message into the octets lent: what each function of src/ leaves there.
use Rattle.std.specs.Prelude.{◌≡◌, true, cond, List, ◌++◌, ℕ, ◌+◌, ◌*◌, ◌/◌, ◌^◌, ◌≤◌, ◌<◌, leb, length, take, drop, Result}
use Rattle.codec_table.specs.Limits.{message_limit}
use Rattle.codec_table.specs.Messages.{Field}
use Rattle.codec_table.specs.Codec.{left_after, fits_field, put_field, put_fields, Msg, Outcome, ok, refuse, encode}
use Rattle.codec_octets.specs.Bits.{put_bits}
use Rattle.codec_octets.specs.Places.{left_at, placed, Clear}
use Rattle.codec_octets.specs.declared.refusal.Refusal.{Refusal}
use Rattle.codec_table.specs.Answers.{outcome_of}
use Rattle.codec_size.specs.Sizes.{field_end, fields_end, headed}

-- octets laid at octet i, up to next
pub record Lays (s : List ℕ) (i : ℕ) (os s' : List ℕ) (next : ℕ) : Type 0 where
  pub lays : take next s' ≡ take i s ++ os
  pub ends : next ≡ i + length os
  pub size : length s' ≡ length s

-- a field in range may be written at a bit: there is room, and what is left of an octet begun is 0
pub record MayPut (s : List ℕ) (at : ℕ) (f : Field) (v : ℕ) : Type 0 where
  pub fits : fits_field f v ≡ true
  pub room : field_end f v at ≤ length s * 8
  pub short : length s ≤ message_limit
  pub clear : Clear s at

-- a field is written: what is to come behind it comes behind it there
pub record PutsField (s : List ℕ) (at : ℕ) (f : Field) (v : ℕ) (s' : List ℕ) (at' : ℕ) : Type 0 where
  pub same : (r : ℕ × List ℕ) → r.0 < 2 ^ left_after f (left_at at) → placed s' at' r ≡ placed s at (put_field f (left_at at) v r)
  pub ends : at' ≡ field_end f v at
  pub size : length s' ≡ length s
  pub clear : Clear s' at'

-- the fields are written, up to an octet
pub record PutsFields (s : List ℕ) (from : ℕ) (fs : List Field) (vs s' : List ℕ) (next : ℕ) : Type 0 where
  pub same : (os : List ℕ) → take next s' ++ os ≡ placed s from (put_fields fs (left_at from) vs (0, os))
  pub ends : next ≡ (fields_end fs vs from + 7) / 8
  pub size : length s' ≡ length s

-- the head is written
pub record PutsHead (number form present : ℕ) (s s' : List ℕ) (at : ℕ) : Type 0 where
  pub same : (r : ℕ × List ℕ) → r.0 < 2 ^ left_at at → placed s' at r ≡ (put_bits 6 0 number (headed form present r)).1
  pub ends : at ≡ 6 + form
  pub size : length s' ≡ length s
  pub clear : Clear s' at

-- the answer and the room behind it: the octets and what was behind them; or a refusal, 9 "for too little room", "with the room untouched"
abbrev pub filled : Outcome (List ℕ) → List ℕ → Outcome ℕ × List ℕ
filled (ok os) s = cond (leb (length os) (length s)) (ok (length os), os ++ drop (length os) s) (refuse 9, s)
filled (refuse n) s = (refuse n, s)

abbrev pub Encodes : Msg → List ℕ → Result ℕ Refusal → List ℕ → Type 0
Encodes m s r s' = ◌≡◌ {A = Outcome ℕ × List ℕ} (outcome_of r, s') (filled (encode m) s)
