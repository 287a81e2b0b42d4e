-- The same judge with the demanded records as the answer's room holds them: octets, one record behind the other. A record that was seen is struck out
-- by a 0 for its version. This is what the code computes.
use Rattle.std.specs.Prelude.{ℕ, zero, suc, ◌+◌, Bool, ◌&&◌, List, [], ◌∷◌, ◌++◌, eqb, leb, length, get_or, take, drop, set, if◌then◌else◌}
use Rattle.std.proofs.Math.Option.{Option, none, some}
use Rattle.cols_spec.specs.Sets.{null}
use Rattle.out_records.specs.Records.{records}
use Rattle.domain.specs.Tables.{Domain}
use Rattle.history.specs.Recorded.{size, inside}
use Rattle.judging.specs.Traces.{Packet, on, Frame, came, went}
use Rattle.judging.specs.Conforming.{demanded}
use Rattle.judging.specs.Judge.{Verdict, conforms, fault, same_packet, struck, next_id, chosen}

-- octets start with a record: as many follow as it says, with a version and a connection among them
unfoldable pub starts : List ℕ → Bool
starts os = leb 2 (size os) && leb (2 + size os) (length os)

-- it is not struck out: its version is 1
unfoldable pub stands : List ℕ → Bool
stands os = eqb (get_or os 2 0) 1

-- its connection and message
unfoldable pub packet : List ℕ → Packet
packet os = on (get_or os 3 0) (inside os)

-- the records that stand in octets, n at most; octets that start with no record end them
unfoldable pub some_packets : (n : ℕ) (os : List ℕ) → List Packet
some_packets zero os = []
some_packets (suc n) os =
    let more = some_packets n (drop (2 + size os) os) in
    if starts os then (if stands os then packet os ∷ more else more) else []

-- there are no more records than octets
unfoldable pub packets : List ℕ → List Packet
packets os = some_packets (length os) os

-- octets in front, where there are some
abbrev pub laid : List ℕ → Option (List ℕ) → Option (List ℕ)
laid os none = none
laid os (some rest) = some (os ++ rest)

-- the octets with the first record struck out that stands and is the same as r, n at most; none where there is none
unfoldable pub strike_in : (n : ℕ) (r : Packet) (os : List ℕ) → Option (List ℕ)
strike_in zero r os = none
strike_in (suc n) r os =
    let more = laid (take (2 + size os) os) (strike_in n r (drop (2 + size os) os)) in
    if starts os then (if stands os && same_packet r (packet os) then some (set os 2 0) else more) else none

-- one frame after another, as Judge.judge-from
unfoldable pub judge_in : (d : Domain) (room : List ℕ) (at n : ℕ) (fs : List Frame) → Verdict
judge_in d room at n [] = if null (packets room) then conforms else fault at
judge_in d room at n (came c ∷ fs) =
    let o = demanded (chosen d.channels (next_id fs)) d c in
    let more = judge_in o.domain (records o.sent) n (suc n) fs in
    if null (packets room) then more else fault at
judge_in d room at n (went r ∷ fs) = struck (strike_in (length room) r room) n λ next. judge_in d next at (suc n) fs
