-- The verdicts of the example, by computing. Assumes nothing.
use mathlib.Core.Path.{◌≡◌, refl}
use mathlib.Core.List.{List, [], ◌∷◌, ◌++◌}
use Rattle.domain.proofs.Opened.{opened}
use Rattle.domain.specs.Outcomes.{limited}
use Rattle.serve_read.specs.Understood.{number_in, read_as, understood}
use Rattle.history.specs.Recorded.{opening}
use Rattle.history.specs.Served.{event}
use Rattle.judging.specs.Traces.{on, Frame, came, went}
use Rattle.judging.specs.Conforming.{demanded, shown, due}
use Rattle.judging.specs.Judge.{Verdict, conforms, fault, same_octets, same_packet, strike, id_in, next_id, chosen, judge_from, judge}
use Rattle.judging.specs.Example.{AUcf_of, DUin_all, CJcf_of, to_frame_2, to_frame_3, to_frame_4, to_frame_6, to_frame_8}

-- one name that opens the judge, and the machine with it
unfoldable judging_opened : Unit {0}
unfolding opened number_in read_as understood event demanded shown due same_octets same_packet strike id_in next_id chosen judge_from judge
judging_opened = tt

-- a trace, judged with limits 128, 64, 64
abbrev verdict : List Frame → Verdict
verdict fs = judge (limited 128 64 64) fs

-- their ids and their order
pub passes : verdict to_frame_8 ≡ conforms
unfolding judging_opened AUcf_of DUin_all CJcf_of to_frame_2 to_frame_3 to_frame_4 to_frame_6 to_frame_8
passes = refl

-- nothing, and a record before any event
pub nothing_passes : verdict [] ≡ conforms
unfolding judging_opened
nothing_passes = refl

pub too_early : verdict (went (on 2 (AUcf_of 0 0)) ∷ came (opening 2) ∷ []) ≡ fault 0
unfolding judging_opened AUcf_of
too_early = refl

-- AUcf missing at the end, and at the next event: AUrq's frame
pub unanswered : verdict to_frame_2 ≡ fault 2
unfolding judging_opened to_frame_2
unanswered = refl

pub unanswered_before : verdict (to_frame_2 ++ (came (opening 4) ∷ [])) ≡ fault 2
unfolding judging_opened to_frame_2
unanswered_before = refl

-- an id that is in use, and a static one: the record
pub in_use : verdict (to_frame_4 ++ (went (on 2 (CJcf_of 0xff 0xff)) ∷ [])) ≡ fault 5
unfolding judging_opened AUcf_of CJcf_of to_frame_2 to_frame_3 to_frame_4
in_use = refl

pub static : verdict (to_frame_4 ++ (went (on 2 (CJcf_of 0x03 0xe8)) ∷ [])) ≡ fault 5
unfolding judging_opened AUcf_of CJcf_of to_frame_2 to_frame_3 to_frame_4
static = refl

-- DUin to 2 alone: the event; twice to 3: the second; to 4, which is not open: that one
pub one_untold : verdict (to_frame_6 ++ (went (on 2 DUin_all) ∷ [])) ≡ fault 6
unfolding judging_opened AUcf_of DUin_all CJcf_of to_frame_2 to_frame_3 to_frame_4 to_frame_6
one_untold = refl

pub twice_told : verdict (to_frame_6 ++ (went (on 3 DUin_all) ∷ went (on 3 DUin_all) ∷ went (on 2 DUin_all) ∷ [])) ≡ fault 8
unfolding judging_opened AUcf_of DUin_all CJcf_of to_frame_2 to_frame_3 to_frame_4 to_frame_6
twice_told = refl

pub shut_told : verdict (to_frame_8 ++ (went (on 4 DUin_all) ∷ [])) ≡ fault 9
unfolding judging_opened AUcf_of DUin_all CJcf_of to_frame_2 to_frame_3 to_frame_4 to_frame_6 to_frame_8
shut_told = refl
