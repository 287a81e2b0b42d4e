-- What is claimed of the judge, and of traces that conform; proofs/ has the proofs.
use Rattle.std.specs.Prelude.{ℕ, ◌≤◌, ◌≡◌, ◌↔◌, List, [], ◌∷◌, ◌++◌, map, length}
use Rattle.std.proofs.Math.Bool.{So}
use Rattle.codec_octets.specs.Octets.{Bytes}
use Rattle.codec_table.specs.Codec.{ok}
use Rattle.codec_table.specs.Named.{Message, fields, heard}
use Rattle.out_records.specs.Records.{Sent, to, wire}
use Rattle.domain.specs.declared.Limits.{Limits}
use Rattle.domain.specs.Tables.{Domain, fresh, in_range, FreeId}
use Rattle.domain.specs.Events.{step, step_with}
use Rattle.domain.specs.Good.{Good}
use Rattle.domain.specs.Outcomes.{limited, begun}
use Rattle.history.specs.Recorded.{Call, Note}
use Rattle.history.specs.Served.{event, Bytewise, Turn, AllBytewise, Run, run, notes, serves, started, Calls}
use Rattle.judging.specs.Traces.{Packet, Frame, came, went, groups, EventsBytewise}
use Rattle.judging.specs.Conforming.{ample, demanded, shown, outcomes, Conforms}
use Rattle.judging.specs.Judge.{conforms, fault, id_in, judge}
use Rattle.judging.specs.Room.{packets, judge_in}

-- J1. The judge says that a trace conforms exactly when some run by the rules gives it
abbrev pub JudgedExactly : Type 0
JudgedExactly = (l : Limits) (fs : List Frame) → So (in_range l) → EventsBytewise fs → (judge l fs ≡ conforms) ↔ Conforms l fs

-- J4. That run is the only one: their records force the ids
abbrev pub OnlyRun : Type 0
OnlyRun =
    (l : Limits) (fs : List Frame) → So (in_range l) → EventsBytewise fs → (a b : Conforms l fs)
    → outcomes (fresh l) (groups fs) a.1 ≡ outcomes (fresh l) (groups fs) b.1

-- two ids are one, unless every id goes the same way
pub data Forced (d : Domain) (c : Call) (new old : ℕ) : Type 0 where
  any_id : ((x y : ℕ) → demanded x d c ≡ demanded y d c) → Forced d c new old
  one_id : new ≡ old → Forced d c new old

-- of two ids that give the same outcome
abbrev pub IdsForced : Type 0
IdsForced = (d : Domain) (c : Call) (new old : ℕ) → Bytewise c → demanded new d c ≡ demanded old d c → Forced d c new old

-- room for every answer is unlimited room: any more changes nothing
abbrev pub RoomForAll : Type 0
RoomForAll =
    (d : Domain) (new : ℕ) (c : Call) (room : ℕ) → Good d → Bytewise c → FreeId d new → ample ≤ room → step_with new d (event c) room ≡ demanded new d c

-- an event goes the same way for each new id; or it sends one record, whatever the id, and the record names it
pub data Ways (d : Domain) (c : Call) : Type 0 where
  one_way : ((new old : ℕ) → demanded new d c ≡ demanded old d c) → Ways d c
  by_id : (q : ℕ) (m : (ℕ → Message)) → ((new : ℕ) → (demanded new d c).sent ≡ to q (m new) ∷ []) → ((new : ℕ) → id_in (fields (m new)) ≡ new) → Ways d c

-- of every event
abbrev pub SameOrOne : Type 0
SameOrOne = (d : Domain) (c : Call) → Bytewise c → Ways d c

-- octets are those of a demanded record exactly when they are read as its message: PER has one form
abbrev pub OneForm : List Sent → Type 0
OneForm [] = Unit {0}
OneForm (to q m ∷ rs) = ((os : List ℕ) → Bytes os → (os ≡ wire m) ↔ (heard os ≡ ok m)) × OneForm rs

-- of every record that is demanded
abbrev pub ByOctets : Type 0
ByOctets = (d : Domain) (new : ℕ) (c : Call) → Good d → Bytewise c → FreeId d new → OneForm (demanded new d c).sent

-- the judge that works in the octets of the room says the same
abbrev pub RoomJudges : Type 0
RoomJudges = (l : Limits) (fs : List Frame) → judge_in (fresh l) [] 0 0 fs ≡ judge l fs

-- ---- our own bridge

-- the trace of our own machine: each call with its room, and behind it all its records in our order
unfoldable pub our_trace : (d : Domain) (ts : List (Call × ℕ)) → List Frame
our_trace d [] = []
our_trace d (t ∷ ts) =
    let o = step d (event t.0) t.1 in
    came t.0 ∷ (map (λ s. went (shown s)) o.sent ++ our_trace o.domain ts)

-- the octets of every call are below 256, and no answer is 9
abbrev pub Roomy : Domain → List (Call × ℕ) → Type 0
Roomy d [] = Unit {0}
Roomy d (t ∷ ts) = Bytewise t.0 × ((step d (event t.0) t.1).reply ≡ 9 → ⊥) × Roomy (step d (event t.0) t.1).domain ts

-- J2. A trace of our own machine, with the ids that it grants, conforms
abbrev pub OwnConforms : Type 0
OwnConforms = (l : Limits) (ts : List (Call × ℕ)) → So (in_range l) → Roomy (fresh l) ts → Conforms l (our_trace (fresh l) ts)

-- the trace of what is noted of a run, the last note first: behind each call the records in the octets sent
unfoldable pub traced : List Note → List Frame
traced [] = []
traced (n ∷ ns) = traced ns ++ (came n.call ∷ map went (packets n.sent))

-- no answer was 9
abbrev pub None9 : List Note → Type 0
None9 [] = Unit {0}
None9 (n ∷ ns) = (n.reply ≡ 9 → ⊥) × None9 ns

-- what is noted of a run, where no answer was 9, is a trace that conforms
abbrev pub NotesConform : Limits → Run → Type 0
NotesConform l r = None9 (notes r) → Conforms l (traced (notes r))

-- J2 of octets: any limits that `start` takes, any calls with any octets and any rooms; of the run, and of what the public functions did from the tables that
-- `start` left with reply 0
abbrev pub BridgeConforms : Type 0
BridgeConforms =
    (channels users tokens : ℕ) (before : Domain) (ts : List Turn) → AllBytewise ts
    → ((begun channels users tokens before).0 ≡ 0 → NotesConform (limited channels users tokens) (serves (started channels users tokens before) ts))
    × ((d : Domain) → ◌≡◌ {A = ℕ × Domain} (0, d) (begun channels users tokens before) → (r : Run) → Calls (run d []) ts r → NotesConform (limited channels users tokens) r)

-- ---- the frame that is named

-- what can stand behind the records of a group: nothing, or the next event
abbrev pub GroupEnds : List Frame → Type 0
GroupEnds [] = Unit {0}
GroupEnds (came c ∷ fs) = Unit {0}
GroupEnds (went r ∷ fs) = ⊥

-- frame n is a record that is wrong, where P says which traces conform: the frames before it begin a trace that conforms, with it they begin none
pub record Wrong (P : (List Frame → Type 0)) (fs : List Frame) (n : ℕ) : Type 0 where
  pub before : List Frame
  pub it : Packet
  pub after : List Frame
  pub here : fs ≡ before ++ (went it ∷ after)
  pub number : length before ≡ n
  pub so_far : (rest : List Frame) × P (before ++ rest)
  pub no_further : (rest : List Frame) → P (before ++ (went it ∷ rest)) → ⊥

-- frame n is an event whose records are not all there: with one more or some more it all conforms, up to this group; with those that are there no
-- trace does, whatever comes next
pub record Missing (P : (List Frame → Type 0)) (fs : List Frame) (n : ℕ) : Type 0 where
  pub before : List Frame
  pub call : Call
  pub sent : List Packet
  pub after : List Frame
  pub here : fs ≡ before ++ (came call ∷ (map went sent ++ after))
  pub number : length before ≡ n
  pub next : GroupEnds after
  pub one : Packet
  pub more : List Packet
  pub with_more : P (before ++ (came call ∷ map went (sent ++ (one ∷ more))))
  pub no_less : (rest : List Frame) → GroupEnds rest → P (before ++ (came call ∷ (map went sent ++ rest))) → ⊥

-- frame n is at fault
pub data AtFault (P : (List Frame → Type 0)) (fs : List Frame) (n : ℕ) : Type 0 where
  a_record : Wrong P fs n → AtFault P fs n
  an_event : Missing P fs n → AtFault P fs n

-- J3. The frame that the judge names is the one at fault, and no other is
abbrev pub FaultExactly : Type 0
FaultExactly = (l : Limits) (fs : List Frame) (n : ℕ) → So (in_range l) → EventsBytewise fs → (judge l fs ≡ fault n) ↔ AtFault (Conforms l) fs n
