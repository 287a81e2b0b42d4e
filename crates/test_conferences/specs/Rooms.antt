-- A room of users behind connection 1 leaves in one message, or in parts: the tables end the same, and the records differ (T-08).
use Rattle.std.specs.Prelude.{ℕ, List, [], ◌∷◌, ◌++◌}
use Rattle.codec_table.specs.Named.{Message, AUrq, DUrq, DUin, CJrq, CCrq, CDin, CArq, TGrq, TIrq, TVrq, TVcf, no_such_user, self_grabbed}
use Rattle.out_records.specs.Records.{Sent, to}
use Rattle.domain.specs.Events.{opens, hears, reads}
use Rattle.domain.specs.History.{History, begins, ◌▹◌}
use Rattle.domain.specs.Claims.{Turn, Run, now, past, from_fresh}
use Rattle.domain_laws.specs.Same.{static, user_id, private_of, grabbed, inhibited, given}
use Rattle.domain_laws.specs.View.{View, view}

-- a message on connection p
abbrev from : ℕ → Message → Turn
from p m = (hears p (reads m), 17200)

-- 1002, 1003 and 1004 are in the room; 1001 on 0 and 1005 on 2 stay. Token 1 is offered within the room, 2 to it, 3 by it; 4 is inhibited by some who stay,
-- 5 grabbed and 6 inhibited in the room alone. Private channel 1006 admits two of the room, 1007 is managed there, and the connection has joined 5
unfoldable pub room : List Turn
room =
    (opens 0, 0)
    ∷ (opens 1, 0)
    ∷ (opens 2, 0)
    ∷ from 0 AUrq
    ∷ from 1 AUrq
    ∷ from 1 AUrq
    ∷ from 1 AUrq
    ∷ from 2 AUrq
    ∷ from 1 (TGrq 1002 1)
    ∷ from 1 (TVrq 1002 1 1003)
    ∷ from 0 (TGrq 1001 2)
    ∷ from 0 (TVrq 1001 2 1003)
    ∷ from 1 (TGrq 1004 3)
    ∷ from 1 (TVrq 1004 3 1005)
    ∷ from 0 (TIrq 1001 4)
    ∷ from 1 (TIrq 1002 4)
    ∷ from 1 (TIrq 1004 4)
    ∷ from 1 (TGrq 1003 5)
    ∷ from 1 (TIrq 1003 6)
    ∷ from 1 (TIrq 1004 6)
    ∷ from 0 (CCrq 1001)
    ∷ from 0 (CArq 1001 1006 (1003 ∷ 1004 ∷ []))
    ∷ from 1 (CJrq 1004 1006)
    ∷ from 1 (CCrq 1002)
    ∷ from 1 (CArq 1002 1007 (1005 ∷ []))
    ∷ from 1 (CJrq 1003 5)
    ∷ []

-- a DUrq of these ids on the room's connection
abbrev leaves : (reason : ℕ) (ids : List ℕ) → Turn
leaves reason ids = from 1 (DUrq reason ids)

-- all in one
unfoldable pub in_one : List Turn
in_one = leaves 3 (1002 ∷ 1003 ∷ 1004 ∷ []) ∷ []

-- one by one, the recipient first
unfoldable pub one_by_one : List Turn
one_by_one = leaves 3 (1003 ∷ []) ∷ leaves 3 (1002 ∷ []) ∷ leaves 3 (1004 ∷ []) ∷ []

-- in two, the giver first, with other reasons, and with ids that stand twice, are elsewhere or are gone
unfoldable pub in_two : List Turn
in_two = leaves 1 (1004 ∷ 1002 ∷ 1001 ∷ 1004 ∷ []) ∷ leaves 0 (1002 ∷ 1003 ∷ 1999 ∷ []) ∷ []

-- what a run from a fresh domain comes to
unfoldable pub run_of : List Turn → Run
run_of ts = from_fresh (record { channels = 128; users = 64; tokens = 64 }) (room ++ ts)

-- the tables when the room has left, by ids
unfoldable pub left_by : List Turn → View
left_by ts = view (now (run_of ts))

-- the records of as many of the last events, the last event first
unfoldable pub last_sent : (events : List Turn) (h : History) → List (List Sent)
last_sent [] h = []
last_sent (t ∷ ts) (begins s) = []
last_sent (t ∷ ts) (e ▹ h) = e.sent ∷ last_sent ts h

unfoldable pub told_by : List Turn → List (List Sent)
told_by ts = last_sent ts (past (run_of ts))

-- 1001 has token 2 again, 3 is given to 1005, 4 inhibited by 1001 alone; 1 is no longer marked on 1006, and still on 5
unfoldable pub tables_left : View
tables_left = record {
  limits = record { channels = 128; users = 64; tokens = 64 };
  links = 7;
  users = (1001, 0) ∷ (1005, 2) ∷ [];
  channels = (5, (static, 2)) ∷ (1001, (user_id, 0)) ∷ (1005, (user_id, 0)) ∷ (1006, (private_of 1001 [], 0)) ∷ [];
  tokens = (2, grabbed 1001) ∷ (3, given 1005) ∷ (4, inhibited (1001 ∷ [])) ∷ [];
}

-- DUin to all three connections; CDin of 1007 to the room and to 1005; TVcf to those who stay
abbrev gone : (reason : ℕ) (ids : List ℕ) → List Sent
gone reason ids = to 0 (DUin reason ids) ∷ to 1 (DUin reason ids) ∷ to 2 (DUin reason ids) ∷ []

abbrev ended : List Sent
ended = to 1 (CDin 1007) ∷ to 2 (CDin 1007) ∷ []

abbrev token_1_back : List Sent
token_1_back = to 1 (TVcf no_such_user 1002 1 self_grabbed) ∷ []

abbrev token_2_back : List Sent
token_2_back = to 0 (TVcf no_such_user 1001 2 self_grabbed) ∷ []

-- in one message nobody is told of token 1, whose giver and recipient leave together
unfoldable pub told_in_one : List (List Sent)
told_in_one = (gone 3 (1002 ∷ 1003 ∷ 1004 ∷ []) ++ ended ++ token_2_back) ∷ []

-- one by one its giver is told, before it leaves
unfoldable pub told_one_by_one : List (List Sent)
told_one_by_one = gone 3 (1004 ∷ []) ∷ (gone 3 (1002 ∷ []) ++ ended) ∷ (gone 3 (1003 ∷ []) ++ token_1_back ++ token_2_back) ∷ []

-- its giver left first: nobody is there to be told
unfoldable pub told_in_two : List (List Sent)
told_in_two = (gone 0 (1003 ∷ []) ++ token_2_back) ∷ (gone 1 (1004 ∷ 1002 ∷ []) ++ ended) ∷ []
