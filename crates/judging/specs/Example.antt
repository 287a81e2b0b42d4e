-- A trace of another maker's bridge, and what is wrong with some like it. Connections 2 and 3 open; user 65535, their choice, attaches on 2; an
-- assigned channel is joined, 1002 by their choice; the user leaves, and 3 is told before 2.
use Rattle.std.specs.Prelude.{ℕ, List, [], ◌∷◌, ◌++◌}
use Rattle.history.specs.Recorded.{opening, message}
use Rattle.judging.specs.Traces.{on, Frame, came, went}

-- AUcf, successful, for the user with these octets
unfoldable pub AUcf_of : (high low : ℕ) → List ℕ
AUcf_of high low = 0x2e ∷ 0 ∷ high ∷ low ∷ []

-- DUin, user requested, of 65535
unfoldable pub DUin_all : List ℕ
DUin_all = 0x35 ∷ 0x80 ∷ 1 ∷ 0xfc ∷ 0x16 ∷ []

-- CJcf, successful, of 65535 for channel 0: the channel with these octets
unfoldable pub CJcf_of : (high low : ℕ) → List ℕ
CJcf_of high low = 0x3e ∷ 0 ∷ 0xfc ∷ 0x16 ∷ 0 ∷ 0 ∷ high ∷ low ∷ []

-- frames 0 to 2: open 2, open 3, AUrq on 2
unfoldable pub to_frame_2 : List Frame
to_frame_2 = came (opening 2) ∷ came (opening 3) ∷ came (message 2 (0x28 ∷ [])) ∷ []

-- frame 3: AUcf for 65535
unfoldable pub to_frame_3 : List Frame
to_frame_3 = to_frame_2 ++ (went (on 2 (AUcf_of 0xfc 0x16)) ∷ [])

-- frame 4: CJrq of 65535 for channel 0, on 2
unfoldable pub to_frame_4 : List Frame
to_frame_4 = to_frame_3 ++ (came (message 2 (0x38 ∷ 0xfc ∷ 0x16 ∷ 0 ∷ 0 ∷ [])) ∷ [])

-- frame 5: CJcf, 1002; frame 6: DUrq of 65535 on 2
unfoldable pub to_frame_6 : List Frame
to_frame_6 = to_frame_4 ++ (went (on 2 (CJcf_of 0x03 0xea)) ∷ came (message 2 (0x31 ∷ 0x80 ∷ 1 ∷ 0xfc ∷ 0x16 ∷ [])) ∷ [])

-- frames 7 and 8: DUin to 3, then to 2
unfoldable pub to_frame_8 : List Frame
to_frame_8 = to_frame_6 ++ (went (on 3 DUin_all) ∷ went (on 2 DUin_all) ∷ [])
