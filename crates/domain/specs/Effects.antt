-- What comes of a request: it is ignored, or done. And how the answer is settled: 9 where the records exceed the room.
use Rattle.std.specs.Prelude.{ℕ, Bool, List, ◌++◌, ltb, length, drop, if◌then◌else◌}
use Rattle.cols_spec.specs.Places.{At, Nowhere}
use Rattle.out_records.specs.Records.{Sent, records}
use Rattle.domain.specs.declared.answer.Answer.{Answer}
use Rattle.domain.specs.Numbers.{reply_number}
use Rattle.domain.specs.Tables.{Users, attached}

-- a request is ignored, as T.125 says, or done: the tables that it may change, as they are after it, and the records to send
pub data Effect (A : Type 0) : Type 0 where
  ignored : Effect A
  done : A → List Sent → Effect A

-- An initiator must be attached on p, or the message is ignored; `act` goes on with its place
unfoldable pub from : {A : Type 0} (us : Users) (p u : ℕ) (act : (ℕ → Effect A)) → Effect A
from us p u act = elim (attached us p u) [ At i ↦ act i | Nowhere ↦ ignored ]

-- the same effect on a table that is part of others
unfoldable pub within : {A B : Type 0} (put : (A → B)) (x : Effect A) → Effect B
within put ignored = ignored
within put (done a rs) = done (put a) rs

-- a reply, how many octets are sent, the tables and the answer's room after it
pub record Settled (A : Type 0) : Type 0 where
  pub reply : ℕ
  pub sent : ℕ
  pub tables : A
  pub room : List ℕ

abbrev pub settled : {A : Type 0} (n k : ℕ) (a : A) (out : List ℕ) → Settled A
settled n k a out = record { reply = n; sent = k; tables = a; room = out }

-- what a function answers, with the tables and the room it leaves
abbrev pub answered : {A : Type 0} (r : Answer) (a : A) (out : List ℕ) → Settled A
answered r a out = settled (reply_number r.reply) r.sent a out

-- octets that are to be sent exceed a room: reply 9
abbrev pub exceeds : (octets : List ℕ) (room : ℕ) → Bool
exceeds octets room = ltb room (length octets)

-- replies 1 to 9 leave the tables unchanged. 9 replaces the reply exactly when the records to send exceed the room, and leaves it untouched;
-- otherwise octets behind the records stay
unfoldable pub delivers : {A : Type 0} (n : ℕ) (before after : A) (rs : List Sent) (out : List ℕ) → Settled A
delivers n before after rs out =
    if exceeds (records rs) (length out) then settled 9 0 before out
    else settled n (length (records rs)) after (records rs ++ drop (length (records rs)) out)

unfoldable pub settle : {A : Type 0} (before : A) (x : Effect A) (out : List ℕ) → Settled A
settle before ignored out = settled 1 0 before out
settle before (done after rs) out = delivers 0 before after rs out
