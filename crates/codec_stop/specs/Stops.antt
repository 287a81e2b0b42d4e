-- What an outcome is refused with: 0 where the message is read.
use Rattle.std.specs.Prelude.{ℕ, Option, Some, None}
use Rattle.codec_octets.specs.declared.refusal.Refusal.{Refusal}
use Rattle.codec_octets.specs.Refusals.{refusal_number}
use Rattle.codec_table.specs.Codec.{Msg, Outcome, ok, refuse}

unfoldable pub refusal_of : Outcome Msg → ℕ
refusal_of (ok m) = 0
refusal_of (refuse n) = n

-- the number of a refusal, 0 for none
abbrev pub told : Option Refusal → ℕ
told None = 0
told (Some r) = refusal_number r
