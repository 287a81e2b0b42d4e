-- A trace of another maker's bridge: events with their octets, and the records that were sent.
use Rattle.std.specs.Prelude.{ℕ, List, [], ◌∷◌}
use Rattle.history.specs.Recorded.{Call}
use Rattle.history.specs.Served.{Bytewise}

-- a record: the connection that it was sent to, and the octets of its message
pub data Packet : Type 0 where
  on : ℕ → List ℕ → Packet

-- a frame: an event that came (kinds 0, 1, 2), or a record that went out (kind 3)
pub data Frame : Type 0 where
  came : Call → Frame
  went : Packet → Frame

-- a group: an event, and the records behind it before the next event
pub record Group : Type 0 where
  pub call : Call
  pub sent : List Packet

-- the records before the first event
unfoldable pub first_records : List Frame → List Packet
first_records [] = []
first_records (came c ∷ fs) = []
first_records (went r ∷ fs) = r ∷ first_records fs

-- the groups, in their order
unfoldable pub groups : List Frame → List Group
groups [] = []
groups (came c ∷ fs) = record { call = c; sent = first_records fs } ∷ groups fs
groups (went r ∷ fs) = groups fs

-- the octets of every event are below 256; of a record nothing is asked
abbrev pub EventsBytewise : List Frame → Type 0
EventsBytewise [] = Unit {0}
EventsBytewise (came c ∷ fs) = Bytewise c × EventsBytewise fs
EventsBytewise (went r ∷ fs) = EventsBytewise fs
