-- The names of a message's fields, and that they fit the table of messages.
use Rattle.std.specs.Prelude.{ℕ, suc, zero, ◌+◌, ◌/◌, ◌%◌, ◌≡◌, refl, Bool, true, cond, ◌&&◌, List, [], ◌∷◌, eqb, ltb, get_or}
use Rattle.codec_table.specs.Columns.{packed, packed_at, form_at, count_at, kinds_at, kind_at}
use Rattle.explain_words.specs.Words.{field_words, no_word}

-- a message a line, as src/ keeps it: digits from the right, the place of each field's name among the words for fields; 15 no field
unfoldable pub named : List ℕ
named =
    0xFFFF ∷  -- 0 PDin
    0xFFA7 ∷  -- 1 EDrq
    0xFFFF ∷  -- 2 MCrq
    0xFFFF ∷  -- 3 MCcf
    0xFFFF ∷  -- 4 PCin
    0xFFFF ∷  -- 5 MTrq
    0xFFFF ∷  -- 6 MTcf
    0xFFFF ∷  -- 7 PTin
    0xFFF2 ∷  -- 8 DPum
    0xFFF1 ∷  -- 9 RJum
    0xFFFF ∷  -- 10 AUrq
    0xFF50 ∷  -- 11 AUcf
    0xFFF2 ∷  -- 12 DUrq
    0xFFF2 ∷  -- 13 DUin
    0xFF45 ∷  -- 14 CJrq
    0x4850 ∷  -- 15 CJcf
    0xFFFF ∷  -- 16 CLrq
    0xFFF5 ∷  -- 17 CCrq
    0xF450 ∷  -- 18 CCcf
    0xFF45 ∷  -- 19 CDrq
    0xFFF4 ∷  -- 20 CDin
    0xFF45 ∷  -- 21 CArq
    0xFF45 ∷  -- 22 CAin
    0xFF45 ∷  -- 23 CErq
    0xFFF4 ∷  -- 24 CEin
    0xFFFF ∷  -- 25 SDrq
    0xFFFF ∷  -- 26 SDin
    0xFFFF ∷  -- 27 USrq
    0xFFFF ∷  -- 28 USin
    0xFF65 ∷  -- 29 TGrq
    0x3650 ∷  -- 30 TGcf
    0xFF65 ∷  -- 31 TIrq
    0x3650 ∷  -- 32 TIcf
    0xF965 ∷  -- 33 TVrq
    0xF965 ∷  -- 34 TVin
    0xF690 ∷  -- 35 TVrs
    0x3650 ∷  -- 36 TVcf
    0xFF65 ∷  -- 37 TPrq
    0xFF65 ∷  -- 38 TPin
    0xFF65 ∷  -- 39 TRrq
    0x3650 ∷  -- 40 TRcf
    0xFF65 ∷  -- 41 TTrq
    0xF365 ∷  -- 42 TTcf
    []

-- 43 up name no message
unfoldable pub names_at : ℕ → ℕ
names_at n = get_or named n 0xFFFF

unfoldable pub digit_at : ℕ → ℕ → ℕ
digit_at names i = get_or (names % 16 ∷ names / 16 % 16 ∷ names / 256 % 16 ∷ []) i (names / 4096 % 16)

-- the word of a digit, and of field i of a message
unfoldable pub word_of : ℕ → ℕ
word_of d = cond (ltb 10 d) no_word (field_words + d)

unfoldable pub field_word : ℕ → ℕ → ℕ
field_word n i = cond (ltb 3 i) no_word (word_of (digit_at (names_at n) i))

-- the kind of field that a name is for, by its digit: result, diagnostic, reason, status, channel (an id of either kind), initiator, token,
-- height, requested, recipient, interval
abbrev pub is_for : ℕ → ℕ → Bool
is_for d k = eqb k (get_or (0 ∷ 1 ∷ 2 ∷ 3 ∷ cond (eqb k 5) 5 4 ∷ 5 ∷ 6 ∷ 7 ∷ 4 ∷ 5 ∷ 7 ∷ []) d 8)

-- how many fields a message may have: those that are always there, and the OPTIONAL one
abbrev pub most : ℕ → ℕ
most n = cond (eqb (form_at n) 1) (count_at n + 1) (count_at n)

-- a field has a name for its kind, and where there is no field there is no name
abbrev pub fits : ℕ → ℕ → Bool
fits n i = cond (ltb i (most n)) (is_for (digit_at (names_at n) i) (kind_at n i)) (eqb (digit_at (names_at n) i) 15)

abbrev pub fits_below : ℕ → Bool
fits_below zero = true
fits_below (suc n) = fits n 0 && fits n 1 && fits n 2 && fits n 3 && fits_below n

-- computed over the 43 messages: the names agree with the table of messages
pub agree : fits_below 43 ≡ true
unfolding named names_at digit_at packed packed_at form_at count_at kinds_at kind_at
agree = refl
