-- The words for the numbers of T.125 and of document 01, and the rows of the table that holds them.
use Rattle.std.specs.Prelude.{ℕ, ◌+◌, ◌-◌, ◌≤◌, ◌≡◌, cond, List, [], ◌∷◌, ◌++◌, eqb, leb, length, take, get_or, replicate}
use Prim.Native.String.{String}
use Rattle.explain_words.specs.Letters.{ascii}

-- a group starts where the one before ends
unfoldable pub words : List String
words =
    "successful" ∷  -- 0 results
    "domain-merging" ∷
    "domain-not-hierarchical" ∷
    "no-such-channel" ∷
    "no-such-domain" ∷
    "no-such-user" ∷
    "not-admitted" ∷
    "other-user-id" ∷
    "parameters-unacceptable" ∷
    "token-not-available" ∷
    "token-not-possessed" ∷
    "too-many-channels" ∷
    "too-many-tokens" ∷
    "too-many-users" ∷
    "unspecified-failure" ∷
    "user-rejected" ∷
    "inconsistent-merge" ∷  -- 16 diagnostics
    "forbidden-PDU-downward" ∷
    "forbidden-PDU-upward" ∷
    "invalid-BER-encoding" ∷
    "invalid-PER-encoding" ∷
    "misrouted-user" ∷
    "unrequested-confirm" ∷
    "wrong-transport-priority" ∷
    "channel-id-conflict" ∷
    "token-id-conflict" ∷
    "not-user-id-channel" ∷
    "too-many-channels" ∷
    "too-many-tokens" ∷
    "too-many-users" ∷
    "domain-disconnected" ∷  -- 30 reasons
    "provider-initiated" ∷
    "token-purged" ∷
    "user-requested" ∷
    "channel-purged" ∷
    "notInUse" ∷  -- 35 token statuses
    "selfGrabbed" ∷
    "otherGrabbed" ∷
    "selfInhibited" ∷
    "otherInhibited" ∷
    "selfRecipient" ∷
    "selfGiving" ∷
    "otherGiving" ∷
    "done" ∷  -- 43 replies
    "ignored" ∷
    "not open" ∷
    "open already" ∷
    "wrong length" ∷
    "bad encoding" ∷
    "may not go up" ∷
    "not served" ∷
    "too long" ∷
    "no room" ∷
    "bad limit" ∷
    "bad frame" ∷
    "result" ∷  -- 55 fields
    "diagnostic" ∷
    "reason" ∷
    "status" ∷
    "channel" ∷
    "initiator" ∷
    "token" ∷
    "height" ∷
    "requested" ∷
    "recipient" ∷
    "interval" ∷
    "channels" ∷  -- 66 what follows the fields, and the other parts of a message
    "users" ∷
    "octets" ∷
    "number" ∷
    "end" ∷
    "PDin" ∷  -- 71 the 43 messages
    "EDrq" ∷
    "MCrq" ∷
    "MCcf" ∷
    "PCin" ∷
    "MTrq" ∷
    "MTcf" ∷
    "PTin" ∷
    "DPum" ∷
    "RJum" ∷
    "AUrq" ∷
    "AUcf" ∷
    "DUrq" ∷
    "DUin" ∷
    "CJrq" ∷
    "CJcf" ∷
    "CLrq" ∷
    "CCrq" ∷
    "CCcf" ∷
    "CDrq" ∷
    "CDin" ∷
    "CArq" ∷
    "CAin" ∷
    "CErq" ∷
    "CEin" ∷
    "SDrq" ∷
    "SDin" ∷
    "USrq" ∷
    "USin" ∷
    "TGrq" ∷
    "TGcf" ∷
    "TIrq" ∷
    "TIcf" ∷
    "TVrq" ∷
    "TVin" ∷
    "TVrs" ∷
    "TVcf" ∷
    "TPrq" ∷
    "TPin" ∷
    "TRrq" ∷
    "TRcf" ∷
    "TTrq" ∷
    "TTcf" ∷
    "no such message" ∷  -- 114 why reading stops
    "octets are missing" ∷
    "skipped bits are not 0" ∷
    "value out of range" ∷
    "length in the long form" ∷
    "fragmented length" ∷
    "list above 64 ids" ∷
    "number of 0 octets" ∷
    "number above 4 octets" ∷
    "more octets than needed" ∷
    "octets are left over" ∷
    []

abbrev pub result_words : ℕ
result_words = 0

abbrev pub diagnostic_words : ℕ
diagnostic_words = 16

abbrev pub reason_words : ℕ
reason_words = 30

abbrev pub status_words : ℕ
status_words = 35

abbrev pub reply_words : ℕ
reply_words = 43

abbrev pub field_words : ℕ
field_words = 55

abbrev pub part_words : ℕ
part_words = 66

abbrev pub message_words : ℕ
message_words = 71

abbrev pub why_words : ℕ
why_words = 114

-- behind the last there is no word
abbrev pub no_word : ℕ
no_word = 125

unfoldable pub word : ℕ → List ℕ
word n = ascii (get_or words n "?")

-- a row has 24 octets: a word, and dots, 46, behind it
unfoldable pub padded : List ℕ → List ℕ
padded t = t ++ replicate (24 - length t) 46

-- the rows of some words, one behind the other, and behind them a row for no word
unfoldable pub rows_of : List String → List ℕ
rows_of [] = padded (ascii "?")
rows_of (w ∷ ws) = padded (ascii w) ++ rows_of ws

unfoldable pub rows : List ℕ
rows = rows_of words

-- what stands before the first dot
unfoldable pub front : List ℕ → List ℕ
front [] = []
front (x ∷ xs) = cond (eqb x 46) [] (x ∷ front xs)

-- the place of a value among so many words from a group's first on
unfoldable pub placed : ℕ → ℕ → ℕ → ℕ
placed group count value = cond (leb count value) no_word (cond (leb no_word group) no_word (group + value))

-- so many octets are what stands before the first dot
pub record Fronts (s : List ℕ) (r : ℕ) : Type 0 where
  pub same : take r s ≡ front s
  pub inside : r ≤ length s
