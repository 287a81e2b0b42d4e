-- A message written into the room lent, and read back from there.
use Rattle.std.specs.Prelude.{◌≡◌, cond, List, [], ℕ, length, leb, Result}
use Rattle.codec_table.specs.Codec.{Msg, Outcome, ok, refuse, encode}
use Rattle.codec_read.specs.Held.{decoded}
use Rattle.codec_write.specs.Writing.{filled}
use Rattle.codec_octets.specs.declared.refusal.Refusal.{Refusal}
use Rattle.codec_table.specs.Answers.{outcome_of}
use Rattle.codec_read.specs.declared.Decoded.{Decoded}

-- what a message comes back as, by way of the room lent
abbrev pub back_by : Outcome (List ℕ) → Msg → ℕ → Outcome Msg
back_by (ok os) m room = cond (leb (length os) room) (ok m) (refuse 9)
back_by (refuse n) m room = refuse n

abbrev pub back : Msg → ℕ → Outcome Msg
back m room = back_by (encode m) m room

-- the octets of a message
abbrev pub octets_by : Outcome (List ℕ) → List ℕ
octets_by (ok os) = os
octets_by (refuse n) = []

-- a message written into the room s and read back: what was read, and the room behind it
pub record ReadBack (m : Msg) (s : List ℕ) (d : Result Decoded Refusal) (s' : List ℕ) : Type 0 where
  pub same : outcome_of d ≡ decoded (octets_by (encode m)) (back m (length s))
  pub room : s' ≡ (filled (encode m) s).1
