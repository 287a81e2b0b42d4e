-- Runs of the provider: what its public functions do, one call after another, by the definition that their promises name; and what is noted down.
use Rattle.std.specs.Prelude.{ℕ, ◌≡◌, List, [], ◌∷◌, take}
use Rattle.codec_octets.specs.Octets.{Bytes}
use Rattle.domain.specs.declared.answer.Answer.{Answer}
use Rattle.domain.specs.Tables.{Domain}
use Rattle.domain.specs.Effects.{Settled, answered}
use Rattle.domain.specs.Events.{Event, opens, loses, hears}
use Rattle.domain.specs.Outcomes.{begun, after}
use Rattle.serve_read.specs.Understood.{understood}
use Rattle.history.specs.Recorded.{Call, opening, losing, message, Note, note}

-- the event that `open`, `lose` and `message` promise to serve
unfoldable pub event : Call → Event
event (opening p) = opens p
event (losing p) = loses p
event (message p os) = hears p (understood os)

-- a call, and what stood in the room lent to it
abbrev pub Turn : Type 0
Turn = Call × List ℕ

-- octets are below 256; rooms are any
abbrev pub Bytewise : Call → Type 0
Bytewise (opening p) = Unit {0}
Bytewise (losing p) = Unit {0}
Bytewise (message p os) = Bytes os

-- of every turn
abbrev pub AllBytewise : List Turn → Type 0
AllBytewise [] = Unit {0}
AllBytewise (t ∷ ts) = Bytewise t.0 × AllBytewise ts

-- the tables, and what was noted, the last first
pub data Run : Type 0 where
  run : Domain → List Note → Run

-- its tables
unfoldable pub tables : Run → Domain
tables (run d ns) = d

-- its notes
unfoldable pub notes : Run → List Note
notes (run d ns) = ns

-- what is noted of a call: the reply, and the octets sent, which are the first of the room, as many as the answer says
abbrev pub noting : Call → Settled Domain → Note
noting c s = note c s.reply (take s.sent s.room)

-- what a call leaves, the note of it, and the run with both
abbrev pub left : Run → Turn → Settled Domain
left r t = after (tables r) (event t.0) t.1

abbrev pub noted : Run → Turn → Note
noted r t = noting t.0 (left r t)

unfoldable pub served : Run → Turn → Run
served r t = run (left r t).tables (noted r t ∷ notes r)

-- one turn after another
unfoldable pub serves : Run → List Turn → Run
serves r [] = r
serves r (t ∷ ts) = serves (served r t) ts

-- a domain just made by `start`, whatever stood in its tables before
unfoldable pub started : (channels users tokens : ℕ) (before : Domain) → Run
started channels users tokens before = run (begun channels users tokens before).1 []

-- ---- the same as the public functions relate it: each call takes the tables and a room, and leaves tables, a room and an answer as its promise says
pub data Calls : Run → List Turn → Run → Type 0 where
  no_more : {r : Run} → Calls r [] r
  then_calls : {d e : Domain} {ns : List Note} {c : Call} {before behind : List ℕ} {ts : List Turn} {r : Run} (a : Answer)
      → answered a e behind ≡ after d (event c) before
      → Calls (run e (noting c (answered a e behind) ∷ ns)) ts r
      → Calls (run d ns) ((c, before) ∷ ts) r
