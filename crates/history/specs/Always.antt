-- What holds of every call, whatever the tables, the octets and the room; and of every call of a run with room enough.
use Rattle.std.specs.Prelude.{ℕ, ◌≤◌, ◌≡◌, List, [], length, take, drop}
use Rattle.out_records.specs.Records.{Sent, records}
use Rattle.domain.specs.Tables.{Domain}
use Rattle.domain.specs.Effects.{Settled}
use Rattle.domain.specs.Good.{Good}
use Rattle.domain.specs.Events.{complaint}
use Rattle.domain.specs.Outcomes.{begun, after}
use Rattle.codec_octets.specs.Octets.{Bytes}
use Rattle.imaging.specs.Claims.{restored}
use Rattle.history.specs.Recorded.{Call, opening, losing, message}
use Rattle.history.specs.Served.{event, Turn, Bytewise, AllBytewise, run, tables, noted, serves, started}

-- what is sent with a reply other than 0: nothing, or with 5 and 6 the one RJum
unfoldable pub refusal : Call → ℕ → List Sent
refusal (opening p) n = []
refusal (losing p) n = []
refusal (message p os) n = complaint n p os

-- the tables d and the room `out` at a call, and how it is settled. (That 9 comes exactly when the records exceed the room: provider, Replies)
pub record Always (d : Domain) (c : Call) (out : List ℕ) (s : Settled Domain) : Type 0 where
  -- the reply is a listed one
  pub listed : s.reply ≤ 9
  -- "Replies 1 to 9 leave the tables unchanged", and what is sent is the refusal
  pub unchanged : (s.reply ≡ 0 → ⊥) → s.tables ≡ d
  pub refused : (s.reply ≡ 0 → ⊥) → take s.sent s.room ≡ records (refusal c s.reply)
  -- "9 .. leaves it untouched; otherwise octets behind the records stay"
  pub untouched : s.reply ≡ 9 → s.room ≡ out
  pub fits : s.sent ≤ length out
  pub behind : drop s.sent s.room ≡ drop s.sent out

-- of every call in any tables, with any octets and any room
abbrev pub Demand1 : Type 0
Demand1 = (d : Domain) (c : Call) (out : List ℕ) → Always d c out (after d (event c) out)

module _ (channels users tokens : ℕ) (before : Domain) (ts : List Turn) where
  -- the tables are good after every run
  abbrev pub GoodTables : Type 0
  GoodTables = (begun channels users tokens before).0 ≡ 0 → AllBytewise ts → Good (tables (serves (started channels users tokens before) ts))

  -- "A buffer of 17,200 octets never meets 9"
  abbrev pub RoomEnough : Type 0
  RoomEnough =
      (begun channels users tokens before).0 ≡ 0 → AllBytewise ts
      → (t : Turn) → Bytewise t.0 → 17200 ≤ length t.1 → (noted (serves (started channels users tokens before) ts) t).reply ≡ 9 → ⊥

-- the same from the tables that are read from an image with reply 0
module _ (image : List ℕ) (before : Domain) (ts : List Turn) where
  abbrev pub GoodAfterImage : Type 0
  GoodAfterImage = (restored image before).0 ≡ 0 → Bytes image → AllBytewise ts → Good (tables (serves (run (restored image before).1 []) ts))

  abbrev pub EnoughAfterImage : Type 0
  EnoughAfterImage =
      (restored image before).0 ≡ 0 → Bytes image → AllBytewise ts
      → (t : Turn) → Bytewise t.0 → 17200 ≤ length t.1 → (noted (serves (run (restored image before).1 []) ts) t).reply ≡ 9 → ⊥
