-- What is answered where the tables do not matter.
use Rattle.std.specs.Prelude.{ℕ, List, ◌++◌, length, drop, if◌then◌else◌}
use Rattle.domain.specs.declared.answer.Answer.{Answer}
use Rattle.domain.specs.declared.numbers.Reply.TheVariants.{Ignored}
use Rattle.domain.specs.Effects.{Settled, settled, exceeds}

-- ignored: nothing is sent
abbrev pub unanswered : Answer
unanswered = record { reply = Ignored; sent = 0 }

-- octets sent whole, in front of what stood there, or 9 and nothing touched
unfoldable pub whole : (os out : List ℕ) → Settled (Unit {0})
whole os out = if exceeds os (length out) then settled 9 0 tt out else settled 0 (length os) tt (os ++ drop (length os) out)
