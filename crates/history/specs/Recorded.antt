-- What a person can record of a run: each call with its octets, the reply, and the octets sent; and how that is read. No table is looked at.
use Rattle.std.specs.Prelude.{ℕ, zero, suc, ◌+◌, ◌-◌, ◌*◌, Bool, ◌&&◌, List, [], ◌∷◌, ◌++◌, eqb, leb, length, get_or, take, drop, if◌then◌else◌}
use Rattle.codec_table.specs.Codec.{Outcome, ok, refuse}
use Rattle.codec_table.specs.Named.{Message, heard}
use Rattle.out_records.specs.Records.{Sent, to}
use Rattle.domain.specs.Events.{Event, opens, loses, hears}
use Rattle.domain.specs.History.{Entry, Start, History, begins, ◌▹◌}
use Rattle.serve_read.specs.Understood.{read_as}

-- "Events: open connection p, lose connection p, message on p", a message with its octets
pub data Call : Type 0 where
  opening losing : ℕ → Call
  message : ℕ → List ℕ → Call

-- a call, the reply to it, and the octets sent
pub record Note : Type 0 where
  pub call : Call
  pub reply : ℕ
  pub sent : List ℕ

-- a note of these
abbrev pub note : Call → ℕ → List ℕ → Note
note c n os = record { call = c; reply = n; sent = os }

-- ---- a call is read by the codec alone: the message that octets are, or why they are none
unfoldable pub read_call : Call → Event
read_call (opening p) = opens p
read_call (losing p) = loses p
read_call (message p os) = hears p (read_as os (heard os))

-- ---- "A record sent: 2 octets of length (what follows), version 1, connection, message; big-endian"

-- how many octets follow the first two
unfoldable pub size : List ℕ → ℕ
size os = get_or os 0 0 * 256 + get_or os 1 0

-- octets start with a record: as many follow as it says, with a version and a connection among them, and the version is 1
unfoldable pub is_record : List ℕ → Bool
is_record os = leb 2 (size os) && leb (2 + size os) (length os) && eqb (get_or os 2 0) 1

-- the octets of its message
unfoldable pub inside : List ℕ → List ℕ
inside os = take (size os - 2) (drop 4 os)

-- what a record carries for connection q; a message that cannot be read is passed over
unfoldable pub carried : (q : ℕ) (x : Outcome Message) → List Sent
carried q (ok m) = to q m ∷ []
carried q (refuse n) = []

-- "Records run from the buffer's start": one behind the other, n at most; octets that are no record end the reading
unfoldable pub read_some : (n : ℕ) (os : List ℕ) → List Sent
read_some zero os = []
read_some (suc n) os =
    let behind = read_some n (drop (2 + size os) os) in
    if is_record os then carried (get_or os 3 0) (heard (inside os)) ++ behind else []

-- there are no more records than octets
unfoldable pub read_records : List ℕ → List Sent
read_records os = read_some (length os) os

-- ---- a note is an entry of the history
unfoldable pub read_note : Note → Entry
read_note n = record { event = read_call n.call; reply = n.reply; sent = read_records n.sent }

-- the last one first, on what history begins with
unfoldable pub read : (s : Start) (ns : List Note) → History
read s [] = begins s
read s (n ∷ ns) = read_note n ▹ read s ns
