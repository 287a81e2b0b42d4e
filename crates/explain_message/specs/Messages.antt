-- A message in words, as a list of texts.
use Rattle.std.specs.Prelude.{ℕ, ◌-◌, ◌/◌, cond, true, List, [], ◌∷◌, ◌++◌, eqb, ltb, length, take, drop, get_or, min}
use Rattle.codec_table.specs.Codec.{Outcome, ok, refuse}
use Rattle.codec_table.specs.Columns.{tail_at, kind_at}
use Rattle.codec_read.specs.declared.Decoded.{Decoded}
use Rattle.codec_read.specs.declared.Items.{Items}
use Rattle.codec_read.specs.declared.Items.TheVariants.{Ids, Octets}
use Rattle.trace_io.specs.Lines.{decimal, each}
use Rattle.trace_io.specs.Hexadecimal.{octet_texts}
use Rattle.explain_words.specs.Letters.{ascii}
use Rattle.explain_words.specs.Words.{word, placed, result_words, diagnostic_words, reason_words, status_words, part_words, message_words}
use Rattle.explain_words.specs.FieldNames.{field_word}

-- the value of a field of a kind: a result, diagnostic, reason or status by its name, any other in decimal
unfoldable pub value_text : ℕ → ℕ → List ℕ
value_text kind v =
    cond (eqb kind 0) (word (placed result_words 16 v))
    (cond (eqb kind 1) (word (placed diagnostic_words 14 v))
    (cond (eqb kind 2) (word (placed reason_words 5 v))
    (cond (eqb kind 3) (word (placed status_words 8 v)) (decimal v))))

-- field i of a message: its name and its value, each behind a space
unfoldable pub field_texts : ℕ → ℕ → ℕ → List (List ℕ)
field_texts number i v = ascii " " ∷ word (field_word number i) ∷ ascii " " ∷ value_text (kind_at number i) v ∷ []

-- an id behind a space, and the same at any place of a list
unfoldable pub id_texts : ℕ → List (List ℕ)
id_texts id = ascii " " ∷ decimal id ∷ []

unfoldable pub ids_texts : ℕ → ℕ → List (List ℕ)
ids_texts i id = id_texts id

-- ids, and octets, or that there are none
unfoldable pub list_texts : List ℕ → List (List ℕ)
list_texts ids = cond (eqb (length ids) 0) (ascii " none" ∷ []) (each ids_texts 0 ids)

unfoldable pub octets_texts : List ℕ → List (List ℕ)
octets_texts os = cond (eqb (length os) 0) (ascii " none" ∷ []) (each (octet_texts true) 0 os)

-- a message's items: its string, which lies in the octets read, or the first of the ids
unfoldable pub items_texts : Items → List ℕ → List ℕ → List (List ℕ)
items_texts (Octets start count) ids os = octets_texts (drop (min start (length os)) os)
items_texts (Ids count) ids os = list_texts (take (min count (length ids)) ids)

-- what follows the fields, by its kind: nothing; octets or a list by their name
unfoldable pub tail_texts : ℕ → Items → List ℕ → List ℕ → List (List ℕ)
tail_texts kind items ids os =
    cond (eqb kind 0) []
    (ascii " " ∷ word (placed part_words 3 (kind - 1)) ∷ items_texts items ids os)

-- octets that are not read: no octets, or the message's name, or its number
unfoldable pub unread_texts : List ℕ → List (List ℕ)
unread_texts os =
    cond (eqb (length os) 0) (ascii "no octets" ∷ [])
    (cond (ltb (get_or os 0 0 / 4) 43) (word (placed message_words 43 (get_or os 0 0 / 4)) ∷ []) (ascii "number " ∷ decimal (get_or os 0 0 / 4) ∷ []))

-- what is read of some octets: the name, the fields, what follows them
unfoldable pub read_texts : List ℕ → Decoded → List (List ℕ)
read_texts os d =
    word (placed message_words 43 d.head.number) ∷ []
    ++ each (field_texts d.head.number) 0 (take (min d.head.have (length d.head.values)) d.head.values)
    ++ tail_texts (tail_at d.head.number) d.head.items d.ids os

unfoldable pub message_texts : List ℕ → Outcome Decoded → List (List ℕ)
message_texts os (ok d) = read_texts os d
message_texts os (refuse n) = unread_texts os
