-- The trace of document 01 as a run: connection 2 opens, AUrq, TGrq of user 1001 for token 1, loss; and what is noted of it. The rooms are not clean.
use Rattle.std.specs.Prelude.{ℕ, List, [], ◌∷◌, replicate}
use Rattle.domain.specs.Tables.{fresh}
use Rattle.domain.specs.Outcomes.{limited}
use Rattle.history.specs.Recorded.{opening, losing, message, Note, note}
use Rattle.history.specs.Served.{Turn, Run, serves, started}

-- AUrq
unfoldable pub attaching : List ℕ
attaching = 0x28 ∷ []

-- TGrq, user 1001, token 1
unfoldable pub grabbing : List ℕ
grabbing = 0x74 ∷ 0 ∷ 0 ∷ 0 ∷ 0 ∷ []

-- what stood in each room
unfoldable pub room : List ℕ
room = replicate 40 0x28

-- the calls
unfoldable pub turns : List Turn
turns = (opening 2, room) ∷ (message 2 attaching, room) ∷ (message 2 grabbing, room) ∷ (losing 2, room) ∷ []

-- from limits 128, 64, 64
unfoldable pub end : Run
end = serves (started 128 64 64 (fresh (limited 0 0 0))) turns

-- until the loss, the last first; AUcf for 1001, TGcf for 1001 and token 1
unfoldable pub held_notes : List Note
held_notes =
    note (message 2 grabbing) 0 (0 ∷ 9 ∷ 1 ∷ 2 ∷ 0x78 ∷ 0 ∷ 0 ∷ 0 ∷ 0 ∷ 0 ∷ 0x20 ∷ [])
    ∷ note (message 2 attaching) 0 (0 ∷ 6 ∷ 1 ∷ 2 ∷ 0x2e ∷ 0 ∷ 0 ∷ 0 ∷ [])
    ∷ note (opening 2) 0 []
    ∷ []

-- and with the loss
unfoldable pub all_notes : List Note
all_notes = note (losing 2) 0 [] ∷ held_notes
