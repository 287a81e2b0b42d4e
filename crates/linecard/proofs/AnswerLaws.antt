-- What `ladlestorm_raw_message_number` answers. Assumes nothing.
use mathlib.Core.Path.{◌≡◌, ap}
use mathlib.Core.List.{List}
use Prim.Native.Nat.{ℕ, ◌+◌}
use Rattle.std.specs.Prelude.{Ok, Err}
use Rattle.codec_octets.specs.declared.refusal.Refusal.{Refusal}
use Rattle.codec_octets.specs.Refusals.{refusal_number}
use Rattle.codec_table.specs.Answers.{outcome_of}
use Rattle.codec_table.specs.Codec.{Msg, Outcome, ok, refuse}
use Rattle.codec_read.specs.Held.{held, decoded}
use Rattle.codec_read.specs.declared.Decoded.{Decoded}
use Rattle.linecard.specs.Answers.{answer_of}

pub answer_ok : (s : List ℕ) (d : Decoded) (o : Outcome Msg) → outcome_of (Ok d) ≡ decoded s o → d.head.number ≡ answer_of o
unfolding decoded held
answer_ok s d (ok m) e = let h : d ≡ held s m = cc e in ap (λ (x : Decoded). x.head.number) h
answer_ok s d (refuse n) e = absurd (cc e)

pub answer_no : (s : List ℕ) (r : Refusal) (o : Outcome Msg) → outcome_of {T = Decoded} (Err r) ≡ decoded s o → 64 + refusal_number r ≡ answer_of o
unfolding decoded
answer_no s r (ok m) e = absurd (cc e)
answer_no s r (refuse n) e = let h : refusal_number r ≡ n = cc e in ap (λ n. 64 + n) h
