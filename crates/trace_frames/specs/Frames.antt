-- What stands at the front of a trace: document 01, "The trace program".
use Rattle.std.specs.Prelude.{ℕ, ◌+◌, ◌*◌, ◌&&◌, ◌||◌, cond, List, leb, eqb, length, get_or}
use Rattle.trace_frames.specs.declared.Kind.{Kind}
use Rattle.trace_frames.specs.declared.Kind.TheVariants.{Open, Loss, Message}
use Rattle.trace_frames.specs.declared.Frame.{Frame}
use Rattle.trace_frames.specs.declared.Frame.TheVariants.{End, Good, Bad}

-- "2 octets of length, version 1, kind, connection, octets": each where it stands, 0 where there is no octet
abbrev pub length_of : List ℕ → ℕ
length_of s = get_or s 0 0 * 256 + get_or s 1 0

abbrev pub version_of : List ℕ → ℕ
version_of s = get_or s 2 0

abbrev pub kind_of : List ℕ → ℕ
kind_of s = get_or s 3 0

abbrev pub connection_of : List ℕ → ℕ
connection_of s = get_or s 4 0

-- the whole frame: the length counts what follows its 2 octets
abbrev pub size_of : List ℕ → ℕ
size_of s = 2 + length_of s

-- the trace is over; a frame, whose octets run from start to size; or a reply
pub data Front : Type 0 where
  over : Front
  frame : (kind connection start size : ℕ) → Front
  refused : (reply : ℕ) → Front

-- "kind (0 open, 1 loss, 2 message), .. octets (none unless kind 2)": version, kind and connection alone are 3 octets, 5 with the length
unfoldable pub of_kind : ℕ → ℕ → ℕ → Front
of_kind kind connection size = cond (leb kind 2 && (eqb kind 2 || eqb size 5)) (frame kind connection 5 size) (refused 11)

-- "A frame too short or breaking this gives 11"
unfoldable pub front : List ℕ → Front
front s =
    cond (eqb (length s) 0)
    over
    (cond (leb (size_of s) (length s) && leb 5 (size_of s) && eqb (version_of s) 1)
    (of_kind (kind_of s) (connection_of s) (size_of s))
    (refused 11))

-- document 01's number of each kind
abbrev pub kind_number : Kind → ℕ
kind_number Open = 0
kind_number Loss = 1
kind_number Message = 2

-- document 01's numbers and values for each answer
abbrev pub meaning : Frame → Front
meaning End = over
meaning (Good kind connection start size) = frame (kind_number kind) connection start size
meaning Bad = refused 11
