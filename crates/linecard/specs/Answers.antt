-- "The line card's C program asks one question of an octet slice: its message number, or 64 plus the codec's refusal."
use Rattle.std.specs.Prelude.{ℕ, ◌+◌}
use Rattle.codec_table.specs.Codec.{Msg, Outcome, ok, refuse}

abbrev pub answer_of : Outcome Msg → ℕ
answer_of (ok m) = m.number
answer_of (refuse n) = 64 + n
