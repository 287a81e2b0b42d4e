-- The message that a served number names, with its values and its list, as the code holds them: what it asks for is what the message read asks for.
use Rattle.std.specs.Prelude.{ℕ, ◌%◌, List, eqb, ltb, if◌then◌else◌}
use Rattle.codec_table.specs.Named.{Message, EDrq, DPum, AUrq, DUrq, CJrq, CLrq, CCrq, CDrq, CArq, CErq, TGrq, TIrq, TVrq, TVrs, TPrq, TRrq, TTrq}

-- requests about tokens, by the user and the token; a TVrq carries its recipient besides, a TVrs its result
unfoldable pub pass_request : (number u k more : ℕ) → Message
pass_request number u k more =
    if eqb number 29 then TGrq u k
    else if eqb number 31 then TIrq u k
    else if eqb number 33 then TVrq u k more
    else if eqb number 35 then TVrs (more % 16) u k
    else TRrq u k

unfoldable pub token_request : (number u k more : ℕ) → Message
token_request number u k more =
    if ltb 40 number then TTrq u k
    else if eqb number 37 then TPrq u k
    else pass_request number u k more

-- the other requests of a few ids
unfoldable pub brief_request : (number a b : ℕ) → Message
brief_request number a b =
    if eqb number 10 then AUrq
    else if eqb number 14 then CJrq a b
    else if eqb number 17 then CCrq a
    else CDrq a b

-- those with a list of ids, and those that ask for nothing of their values: EDrq's values ask for nothing, and RJum asks for what DPum does
unfoldable pub listed_request : (number a b : ℕ) (ids : List ℕ) → Message
listed_request number a b ids =
    if eqb number 1 then EDrq 0 0
    else if eqb number 12 then DUrq (a % 8) ids
    else if eqb number 16 then CLrq ids
    else if eqb number 21 then CArq a b ids
    else if eqb number 23 then CErq a b ids
    else DPum a
