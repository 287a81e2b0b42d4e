-- What is sent: a message to a connection, and the record that carries it.
use Rattle.std.specs.Prelude.{ℕ, ◌+◌, ◌/◌, ◌%◌, List, [], ◌∷◌, ◌++◌, map, length}
use Rattle.cols_spec.specs.Sets.{listed, connections}
use Rattle.codec_table.specs.Codec.{octets_of_msg}
use Rattle.codec_table.specs.Named.{Message, fields}

-- a message for a connection
pub data Sent : Type 0 where
  to : ℕ → Message → Sent

-- one message to each connection of a mask, ascending
unfoldable pub tell : ℕ → Message → List Sent
tell m s = map (λ q. to q s) (listed connections m)

-- its octets
unfoldable pub wire : Message → List ℕ
wire m = octets_of_msg (fields m)

-- a number on two octets
abbrev pub two : ℕ → List ℕ
two n = n / 256 ∷ n % 256 ∷ []

-- a record: the length of what follows, version 1, connection, message
unfoldable pub record_of : List ℕ → ℕ → List ℕ
record_of m q = two (length m + 2) ++ 1 ∷ q ∷ m

unfoldable pub octets : Sent → List ℕ
octets (to q m) = record_of (wire m) q

-- the records one behind the other
unfoldable pub records : List Sent → List ℕ
records [] = []
records (r ∷ rs) = octets r ++ records rs
