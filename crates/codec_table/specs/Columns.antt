-- The table of Messages as src/ keeps it: the ways; and the layouts, seven hexadecimal digits a message. From the right: the form (0 all fields
-- are there, 1 the last is OPTIONAL, 2 not covered, 3 no message); what follows (0 nothing, 1 channel ids, 2 user ids, 3 octets); how many
-- fields are always there; the kinds of four fields (7 also where there is none).
use Rattle.std.specs.Prelude.{cond, List, [], ◌∷◌, map, ℕ, ◌/◌, ◌%◌, ◌^◌, eqb, get_or, take}
use Rattle.codec_octets.specs.Octets.{Tail, nothing}
use Rattle.codec_table.specs.Messages.{Field, result, diagnostic, reason, status, channel, user, token, height, channels, users, string, Row, plain, optional, uncovered, unknown, Way, down, up, served}

-- 0 down, 1 up, 2 served; 4 more where the codec covers the message
unfoldable pub ways : List ℕ
ways =
    0 ∷  -- 0 PDin
    6 ∷  -- 1 EDrq
    1 ∷  -- 2 MCrq
    0 ∷  -- 3 MCcf
    0 ∷  -- 4 PCin
    1 ∷  -- 5 MTrq
    0 ∷  -- 6 MTcf
    0 ∷  -- 7 PTin
    6 ∷  -- 8 DPum
    6 ∷  -- 9 RJum
    6 ∷  -- 10 AUrq
    4 ∷  -- 11 AUcf
    6 ∷  -- 12 DUrq
    4 ∷  -- 13 DUin
    6 ∷  -- 14 CJrq
    4 ∷  -- 15 CJcf
    6 ∷  -- 16 CLrq
    6 ∷  -- 17 CCrq
    4 ∷  -- 18 CCcf
    6 ∷  -- 19 CDrq
    4 ∷  -- 20 CDin
    6 ∷  -- 21 CArq
    4 ∷  -- 22 CAin
    6 ∷  -- 23 CErq
    4 ∷  -- 24 CEin
    1 ∷  -- 25 SDrq
    0 ∷  -- 26 SDin
    1 ∷  -- 27 USrq
    0 ∷  -- 28 USin
    6 ∷  -- 29 TGrq
    4 ∷  -- 30 TGcf
    6 ∷  -- 31 TIrq
    4 ∷  -- 32 TIcf
    6 ∷  -- 33 TVrq
    4 ∷  -- 34 TVin
    6 ∷  -- 35 TVrs
    4 ∷  -- 36 TVcf
    6 ∷  -- 37 TPrq
    4 ∷  -- 38 TPin
    6 ∷  -- 39 TRrq
    4 ∷  -- 40 TRcf
    6 ∷  -- 41 TTrq
    4 ∷  -- 42 TTcf
    []

-- 43 up name no message
unfoldable pub way_at : ℕ → ℕ
way_at n = get_or ways n 0

unfoldable pub packed : List ℕ
packed =
    0x7777002 ∷  -- 0 PDin
    0x7777200 ∷  -- 1 EDrq
    0x7777002 ∷  -- 2 MCrq
    0x7777002 ∷  -- 3 MCcf
    0x7777002 ∷  -- 4 PCin
    0x7777002 ∷  -- 5 MTrq
    0x7777002 ∷  -- 6 MTcf
    0x7777002 ∷  -- 7 PTin
    0x7772100 ∷  -- 8 DPum
    0x7771130 ∷  -- 9 RJum
    0x7777000 ∷  -- 10 AUrq
    0x7750101 ∷  -- 11 AUcf
    0x7772120 ∷  -- 12 DUrq
    0x7772120 ∷  -- 13 DUin
    0x7745200 ∷  -- 14 CJrq
    0x4450301 ∷  -- 15 CJcf
    0x7777010 ∷  -- 16 CLrq
    0x7775100 ∷  -- 17 CCrq
    0x7550201 ∷  -- 18 CCcf
    0x7755200 ∷  -- 19 CDrq
    0x7775100 ∷  -- 20 CDin
    0x7755220 ∷  -- 21 CArq
    0x7755220 ∷  -- 22 CAin
    0x7755220 ∷  -- 23 CErq
    0x7775120 ∷  -- 24 CEin
    0x7777002 ∷  -- 25 SDrq
    0x7777002 ∷  -- 26 SDin
    0x7777002 ∷  -- 27 USrq
    0x7777002 ∷  -- 28 USin
    0x7765200 ∷  -- 29 TGrq
    0x3650400 ∷  -- 30 TGcf
    0x7765200 ∷  -- 31 TIrq
    0x3650400 ∷  -- 32 TIcf
    0x7565300 ∷  -- 33 TVrq
    0x7565300 ∷  -- 34 TVin
    0x7650300 ∷  -- 35 TVrs
    0x3650400 ∷  -- 36 TVcf
    0x7765200 ∷  -- 37 TPrq
    0x7765200 ∷  -- 38 TPin
    0x7765200 ∷  -- 39 TRrq
    0x3650400 ∷  -- 40 TRcf
    0x7765200 ∷  -- 41 TTrq
    0x7365300 ∷  -- 42 TTcf
    []

-- the digits of a number's entry; 43 up name no message
unfoldable pub packed_at : ℕ → ℕ
packed_at n = get_or packed n 0x7777003

abbrev pub digit : ℕ → ℕ → ℕ
digit k x = x / 16 ^ k % 16

unfoldable pub form_at : ℕ → ℕ
form_at n = digit 0 (packed_at n)

unfoldable pub tail_at : ℕ → ℕ
tail_at n = digit 1 (packed_at n)

unfoldable pub count_at : ℕ → ℕ
count_at n = digit 2 (packed_at n)

unfoldable pub kinds_at : ℕ → List ℕ
kinds_at n = digit 3 (packed_at n) ∷ digit 4 (packed_at n) ∷ digit 5 (packed_at n) ∷ digit 6 (packed_at n) ∷ []

unfoldable pub kind_at : ℕ → ℕ → ℕ
kind_at n i = get_or (kinds_at n) i 7

-- the same of a line's digits
unfoldable pub kind_in : ℕ → ℕ → ℕ
kind_in x i = get_or (digit 3 x ∷ digit 4 x ∷ digit 5 x ∷ digit 6 x ∷ []) i 7

-- what the digits stand for
unfoldable pub way_of : ℕ → Way
way_of k = get_or (down ∷ up ∷ []) k served

unfoldable pub field_of : ℕ → Field
field_of k = get_or (result ∷ diagnostic ∷ reason ∷ status ∷ channel ∷ user ∷ token ∷ []) k height

unfoldable pub tail_of : ℕ → Tail
tail_of k = cond (eqb k 0) nothing (cond (eqb k 3) string (cond (eqb k 1) channels users))

unfoldable pub fields_of : ℕ → ℕ → List Field
fields_of n count = map field_of (take count (kinds_at n))

unfoldable pub last_field : ℕ → Field
last_field n = field_of (kind_at n (count_at n))

unfoldable pub row_from : ℕ → Row
row_from n =
    cond (eqb (form_at n) 0) (plain (fields_of n (count_at n)) (tail_of (tail_at n)))
    (cond (eqb (form_at n) 1) (optional (fields_of n (count_at n)) (last_field n))
    (cond (eqb (form_at n) 2) uncovered unknown))
