-- What the code answers, as an outcome: a value, or a refusal by its number.
use Rattle.std.specs.Prelude.{Result, Ok, Err}
use Rattle.codec_octets.specs.declared.refusal.Refusal.{Refusal}
use Rattle.codec_octets.specs.Refusals.{refusal_number}
use Rattle.codec_table.specs.Codec.{Outcome, ok, refuse}

abbrev pub outcome_of : {T : Type 0} → Result T Refusal → Outcome T
outcome_of (Ok x) = ok x
outcome_of (Err r) = refuse (refusal_number r)
