-- What a message takes, before anything is written: how far its fields and what follows them go, or the refusal.
use Rattle.std.specs.Prelude.{cond, ◌&&◌, List, [], ◌∷◌, ℕ, ◌+◌, ◌*◌, ◌/◌, ◌≤◌, eqb, leb, length, Result, Ok, Err}
use Rattle.codec_table.specs.Limits.{list_limit, string_limit, message_limit}
use Rattle.codec_octets.specs.Octets.{Item, an_octet, an_id, write_item, Tail, fits_tail, write_tail}
use Rattle.codec_table.specs.Messages.{Field, code, item}
use Rattle.codec_table.specs.Codec.{fits_field, fits_fields, Msg, Outcome, ok, refuse, in_tail, encode}
use Rattle.codec_octets.specs.Bits.{put_bits}
use Rattle.codec_octets.specs.Refusals.{refusal_number}
use Rattle.codec_octets.specs.declared.refusal.Refusal.{Refusal}
use Rattle.codec_table.specs.Columns.{tail_at}

-- what is answered lies up to a number
abbrev pub Below : ℕ → Result ℕ Refusal → Type 0
Below most (Ok n) = n ≤ most
Below most (Err r) = Unit {0}

-- the bit behind a field that is written at a bit, and behind some fields
abbrev pub field_end : Field → ℕ → ℕ → ℕ
field_end (code width most) v at = at + width
field_end (item i) v at = ((at + 7) / 8 + length (write_item i v)) * 8

abbrev pub fields_end : List Field → List ℕ → ℕ → ℕ
fields_end [] vs at = at
fields_end (f ∷ fs) [] at = at
fields_end (f ∷ fs) (v ∷ vs) at = fields_end fs vs (field_end f v at)

-- the same, or 8 for a value out of range
unfoldable pub field_upto : Field → ℕ → ℕ → Outcome ℕ
field_upto f v at = cond (fits_field f v) (ok (field_end f v at)) (refuse 8)

unfoldable pub fields_upto : List Field → List ℕ → ℕ → Outcome ℕ
fields_upto [] [] at = ok at
fields_upto [] (v ∷ vs) at = refuse 8
fields_upto (f ∷ fs) [] at = refuse 8
fields_upto (f ∷ fs) (v ∷ vs) at = cond (fits_field f v) (fields_upto fs vs (field_end f v at)) (refuse 8)

-- the octets of what follows the fields, or 8; or 4 for a string beyond its limit, and so beyond a message's
unfoldable pub tail_upto : Tail → List ℕ → Outcome ℕ
tail_upto t items = cond (in_tail t items) (cond (fits_tail t items) (ok (length (write_tail t items))) (refuse 4)) (refuse 8)

-- the number, and the bit for an OPTIONAL field where the message's form is 1
abbrev pub headed : ℕ → ℕ → ℕ × List ℕ → ℕ × List ℕ
headed form present r = cond (eqb form 0) r (put_bits 1 2 present r)

-- the list of a message by its kind of tail: octets for a string, else ids
abbrev pub items_for : ℕ → List ℕ → List ℕ → List ℕ
items_for kind ids octets = cond (eqb kind 3) octets ids

-- a message as the caller of the writer gives it
unfoldable pub given : ℕ → List ℕ → List ℕ → List ℕ → Msg
given number values ids octets = record { number = number; values = values; items = items_for (tail_at number) ids octets }

-- how many octets, or the refusal
abbrev pub extent : Outcome (List ℕ) → Outcome ℕ
extent (ok os) = ok (length os)
extent (refuse n) = refuse n

abbrev pub encode_of : Msg → Outcome (List ℕ)
encode_of m = encode m

-- the kinds of lists of src/: their items, how many at most, how many octets each
unfoldable pub item_of : ℕ → Item
item_of k = cond (eqb k 3) an_octet (cond (eqb k 1) (an_id 0) (an_id 1001))

unfoldable pub limit_of : ℕ → ℕ
limit_of k = cond (eqb k 3) string_limit list_limit

unfoldable pub width_of : ℕ → ℕ
width_of k = cond (eqb k 3) 1 2

-- a message's fields and what follows them: octets, or 8, or 4 above 1,024
abbrev pub at_most : ℕ → Outcome ℕ
at_most n = cond (leb n message_limit) (ok n) (refuse 4)

unfoldable pub body_upto : ℕ → List Field → Tail → List ℕ → List ℕ → Outcome ℕ
body_upto at fs t vs items =
    cond (fits_fields fs vs && in_tail t items) (at_most ((fields_end fs vs at + 7) / 8 + length (write_tail t items))) (refuse 8)
