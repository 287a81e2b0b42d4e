-- A trace in memory: limits, then frames, then the judge. `front` is what stands at the front of octets (frames, Frames; with T-10 kind 3 is a good
-- frame with any octets, and 11 begins at kind 4).
use Rattle.std.specs.Prelude.{ℕ, zero, suc, ◌-◌, ◌≡◌, ◌↔◌, false, List, [], eqb, length, take, drop, if◌then◌else◌}
use Rattle.std.proofs.Math.Bool.{So}
use Rattle.std.proofs.Math.Option.{Option, none, some}
use Rattle.codec_octets.specs.Octets.{Bytes}
use Rattle.trace_frames.specs.Frames.{Front, over, frame, refused}
use Rattle.domain.specs.declared.Limits.{Limits}
use Rattle.domain.specs.Tables.{in_range}
use Rattle.domain.specs.Outcomes.{limited}
use Rattle.history.specs.Recorded.{opening, losing, message}
use Rattle.judging.specs.Traces.{on, Frame, came, went}
use Rattle.judging.specs.Conforming.{Conforms}
use Rattle.judging.specs.Judge.{Verdict, conforms, fault, in_front, judge}
use Rattle.judging.specs.Claims.{AtFault}

-- a frame by its kind: 0 open, 1 loss, 2 message, 3 record
unfoldable pub frame_of : (kind q : ℕ) (os : List ℕ) → Frame
frame_of kind q os =
    if eqb kind 0 then came (opening q)
    else if eqb kind 1 then came (losing q)
    else if eqb kind 2 then came (message q os)
    else went (on q os)

-- what is there, and then the octets behind it
abbrev pub frames_by : Front → List ℕ → (List ℕ → Option (List Frame)) → Option (List Frame)
frames_by over s go = some []
frames_by (frame kind q start size) s go = in_front (frame_of kind q (take (size - start) (drop start s))) (go (drop size s))
frames_by (refused n) s go = none

-- a refusal, or what the judge says
pub data Judgement : Type 0 where
  refuses : ℕ → Judgement
  says : Verdict → Judgement

-- 11 where a frame is bad
abbrev pub judged_by : Limits → Option (List Frame) → Judgement
judged_by l none = refuses 11
judged_by l (some fs) = says (judge l fs)

module _ (front : (List ℕ → Front)) where
  -- the frames of octets, n at most; none where one of them is bad
  unfoldable pub some_frames : (n : ℕ) (s : List ℕ) → Option (List Frame)
  some_frames zero s = some []
  some_frames (suc n) s = frames_by (front s) s (some_frames n)

  -- there are no more frames than octets
  unfoldable pub all_frames : List ℕ → Option (List Frame)
  all_frames s = some_frames (length s) s

  -- 10 for limits out of range, whatever the frames are
  unfoldable pub judgement : (channels users tokens : ℕ) (s : List ℕ) → Judgement
  judgement channels users tokens s =
      let l = limited channels users tokens in
      if in_range l then judged_by l (all_frames s) else refuses 10

  -- J1 and J3, of octets
  abbrev pub OctetsExactly : Type 0
  OctetsExactly =
      (channels users tokens : ℕ) (s : List ℕ) (fs : List Frame) → Bytes s → So (in_range (limited channels users tokens)) → all_frames s ≡ some fs
      → ((judgement channels users tokens s ≡ says conforms) ↔ Conforms (limited channels users tokens) fs)
      × ((n : ℕ) → (judgement channels users tokens s ≡ says (fault n)) ↔ AtFault (Conforms (limited channels users tokens)) fs n)

  -- and the refusals: 10 exactly where a limit is out of range, 11 exactly where none is and a frame is bad, wherever it stands
  abbrev pub RefusalsExactly : Type 0
  RefusalsExactly =
      (channels users tokens : ℕ) (s : List ℕ)
      → ((judgement channels users tokens s ≡ refuses 10) ↔ (in_range (limited channels users tokens) ≡ false))
      × ((judgement channels users tokens s ≡ refuses 11) ↔ (So (in_range (limited channels users tokens)) × (all_frames s ≡ none)))
