-- The judge, as a program without a heap computes it: the tables, the records demanded by the event at hand that are not yet seen, the number of
-- that event's frame and of the next frame.
use Rattle.std.specs.Prelude.{ℕ, suc, Bool, true, false, ◌&&◌, List, [], ◌∷◌, eqb, get_or, if◌then◌else◌}
use Rattle.std.proofs.Math.Option.{Option, none, some}
use Rattle.cols_spec.specs.Sets.{null}
use Rattle.codec_table.specs.Codec.{Msg, Outcome as Read, ok, refuse, decode}
use Rattle.domain.specs.declared.Limits.{Limits}
use Rattle.domain.specs.Tables.{Channels, Domain, fresh, grant, free_id}
use Rattle.judging.specs.Traces.{Packet, on, Frame, came, went}
use Rattle.judging.specs.Conforming.{demanded, due}

-- conforms, or the number of the first frame that does not, from 0
pub data Verdict : Type 0 where
  conforms : Verdict
  fault : ℕ → Verdict

-- ---- striking out records

-- the same octets
unfoldable pub same_octets : List ℕ → List ℕ → Bool
same_octets [] [] = true
same_octets [] (y ∷ ys) = false
same_octets (x ∷ xs) [] = false
same_octets (x ∷ xs) (y ∷ ys) = eqb x y && same_octets xs ys

-- the same connection and the same octets
unfoldable pub same_packet : Packet → Packet → Bool
same_packet (on q xs) (on p ys) = eqb q p && same_octets xs ys

-- one more in front, where there is a list
abbrev pub in_front : {A : Type 0} → A → Option (List A) → Option (List A)
in_front a none = none
in_front a (some more) = some (a ∷ more)

-- the records left when the first that is the same as r is struck out; none where there is none
unfoldable pub strike : Packet → List Packet → Option (List Packet)
strike r [] = none
strike r (s ∷ ss) = let more = in_front s (strike r ss) in if same_packet r s then some ss else more

-- ---- the id to step with

-- of a message that may hand out an id, AUcf 11, CJcf 15 and CCcf 18, that id, which is its last value
unfoldable pub id_in : Msg → ℕ
id_in x =
    if eqb x.number 11 then get_or x.values 1 0
    else if eqb x.number 15 then get_or x.values 3 0
    else if eqb x.number 18 then get_or x.values 2 0
    else 0

-- the id in octets that are read as a message; 0 where they are none
abbrev pub id_read : Read Msg → ℕ
id_read (ok x) = id_in x
id_read (refuse n) = 0

-- the id that the next frame names; 0 where it names none
unfoldable pub next_id : List Frame → ℕ
next_id [] = 0
next_id (came c ∷ fs) = 0
next_id (went (on q os) ∷ fs) = id_read (decode os)

-- that one, where it is free and from 1001; else our own choice
unfoldable pub chosen : Channels → ℕ → ℕ
chosen cs n = if free_id cs n then n else grant cs

-- ---- one frame after another

-- where a record could not be struck out, since it is not demanded or not any more, its frame n is at fault; else it goes on with what is left
abbrev pub struck : {A : Type 0} → Option A → ℕ → (A → Verdict) → Verdict
struck none n go = fault n
struck (some left) n go = go left

-- at the next event, and at the end, an event whose records are not all there is at fault
unfoldable pub judge_from : (d : Domain) (left : List Packet) (at n : ℕ) (fs : List Frame) → Verdict
judge_from d left at n [] = if null left then conforms else fault at
judge_from d left at n (came c ∷ fs) =
    let o = demanded (chosen d.channels (next_id fs)) d c in
    let more = judge_from o.domain (due o) n (suc n) fs in
    if null left then more else fault at
judge_from d left at n (went r ∷ fs) = struck (strike r left) n λ ss. judge_from d ss at (suc n) fs

-- a whole trace; before the first event nothing is demanded
unfoldable pub judge : Limits → List Frame → Verdict
judge l fs = judge_from (fresh l) [] 0 0 fs
