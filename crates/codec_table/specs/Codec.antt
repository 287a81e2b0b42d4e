-- A message and its octets. Within an octet that is begun, `left` bits are left; a writer gives their value with the octets behind, and a
-- reader is handed both. Where a part starts on an octet, the bits left are 0.
use Rattle.std.specs.Prelude.{Bool, true, false, cond, ◌&&◌, List, [], ◌∷◌, ◌++◌, ℕ, length, leb, ltb, eqb}
use Rattle.codec_octets.specs.Octets.{Read, got, no, Reader, ◌>>=◌, give, fail, need, an_octet, an_id, a_number, fits_item, fits_items, write_item, read_item, Tail, nothing, list, fits_tail, write_tail, read_tail}
use Rattle.codec_table.specs.Limits.{message_limit}
use Rattle.codec_table.specs.Messages.{Field, code, item, Row, plain, optional, uncovered, unknown, kind, presence, row, covers}
use Rattle.codec_octets.specs.Bits.{after, put_bits, take_bits}

-- a field: the bits left behind it, what fits it, how it is written and read. "Bits skipped and at the end are 0."
abbrev pub left_after : Field → ℕ → ℕ
left_after (code width most) left = after width left
left_after (item i) left = 0

abbrev pub fits_field : Field → ℕ → Bool
fits_field (code width most) v = leb v most
fits_field (item i) v = fits_item i v

abbrev pub put_field : Field → ℕ → ℕ → ℕ × List ℕ → ℕ × List ℕ
put_field (code width most) left v r = put_bits width left v r
put_field (item i) left v r = (0, write_item i v ++ r.1)

unfoldable pub take_field : Field → ℕ → ℕ → Reader (ℕ × ℕ)
take_field (code width most) left bits = take_bits width left bits >>= λ t. need (leb t.0 most) 5 (give t)
take_field (item i) left bits = need (eqb bits 0) 5 (read_item i >>= λ v. give (v, 0))

abbrev pub fits_fields : List Field → List ℕ → Bool
fits_fields [] [] = true
fits_fields [] (v ∷ vs) = false
fits_fields (f ∷ fs) [] = false
fits_fields (f ∷ fs) (v ∷ vs) = fits_field f v && fits_fields fs vs

-- the fields' values, before the bits and octets that follow them
abbrev pub put_fields : List Field → ℕ → List ℕ → ℕ × List ℕ → ℕ × List ℕ
put_fields [] left vs r = r
put_fields (f ∷ fs) left [] r = r
put_fields (f ∷ fs) left (v ∷ vs) r = put_field f left v (put_fields fs (left_after f left) vs r)

abbrev pub take_fields : List Field → ℕ → ℕ → Reader (List ℕ × ℕ)
take_fields [] left bits = give ([], bits)
take_fields (f ∷ fs) left bits =
    take_field f left bits >>= λ v. take_fields fs (left_after f left) v.1 >>= λ r. give (v.0 ∷ r.0, r.1)

-- the fields, and on an octet what follows them
abbrev pub fits_body : List Field → Tail → List ℕ → List ℕ → Bool
fits_body fs t vs items = fits_fields fs vs && fits_tail t items

abbrev pub put_body : List Field → Tail → ℕ → List ℕ → List ℕ → ℕ × List ℕ
put_body fs t left vs items = put_fields fs left vs (0, write_tail t items)

abbrev pub take_body : List Field → Tail → ℕ → ℕ → Reader (List ℕ × List ℕ)
take_body fs t left bits = take_fields fs left bits >>= λ r. need (eqb r.1 0) 5 (read_tail t >>= λ items. give (r.0, items))

-- a message: its number, the values of its fields (one fewer where the OPTIONAL one is absent), and its list of ids or its octets
pub record Msg : Type 0 where
  pub number : ℕ
  pub values : List ℕ
  pub items : List ℕ

abbrev pub chosen : Bool → List Field → Field → List Field
chosen present fs f = cond present (fs ++ f ∷ []) fs

abbrev pub bit : Bool → ℕ
bit present = cond present 1 0

abbrev pub fits_row : Row → List ℕ → List ℕ → Bool
fits_row (plain fs t) vs items = fits_body fs t vs items
fits_row (optional fs f) vs items = fits_body (chosen (ltb (length fs) (length vs)) fs f) nothing vs items
fits_row uncovered vs items = false
fits_row unknown vs items = false

-- "The first 6 bits are the number"; "One bit for each OPTIONAL, before the fields"
abbrev pub put_row : Row → List ℕ → List ℕ → ℕ × List ℕ
put_row (plain fs t) vs items = put_body fs t 2 vs items
put_row (optional fs f) vs items =
    let present : Bool = ltb (length fs) (length vs) in
    put_field presence 2 (bit present) (put_body (chosen present fs f) nothing 1 vs items)
put_row uncovered vs items = (0, [])
put_row unknown vs items = (0, [])

abbrev pub take_row : Row → ℕ → Reader (List ℕ × List ℕ)
take_row (plain fs t) bits = take_body fs t 2 bits
take_row (optional fs f) bits = take_field presence 2 bits >>= λ p. take_body (chosen (eqb p.0 1) fs f) nothing 1 p.1
take_row uncovered bits = fail 7
take_row unknown bits = fail 5

-- the octets of a message that fits, and the message of such octets, with nothing left over
unfoldable pub octets_of_msg : Msg → List ℕ
octets_of_msg m = (put_field kind 0 m.number (put_row (row m.number) m.values m.items)).1

abbrev pub read_msg : Reader Msg
read_msg = take_field kind 0 0 >>= λ n. take_row (row n.0) n.1 >>= λ r. give (record { number = n.0; values = r.0; items = r.1 })

pub data Outcome (A : Type 0) : Type 0 where
  ok : A → Outcome A
  refuse : ℕ → Outcome A

abbrev pub ending : {A : Type 0} → Read A → Outcome A
ending (got a []) = ok a
ending (got a (o ∷ os)) = refuse 5
ending (no n) = refuse n

-- "4: message of 0 octets or above 1,024"
abbrev pub sized : List ℕ → Bool
sized os = ltb 0 (length os) && leb (length os) message_limit

-- 4; then by number, 5 where there is no such message and 7 where it is not covered; "then 5 or 8, whichever the reading from the left meets first"
unfoldable pub decode : List ℕ → Outcome Msg
decode os = cond (sized os) (ending (read_msg os)) (refuse 4)

-- what the writer takes
abbrev pub within : Msg → Bool
within m = fits_row (row m.number) m.values m.items && sized (octets_of_msg m)

-- what 8 is not given for: fields in range and a list within its limit; a string has no limit of its own
abbrev pub in_tail : Tail → List ℕ → Bool
in_tail nothing items = fits_tail nothing items
in_tail (list an_octet limit) items = fits_items an_octet items
in_tail (list (an_id low) limit) items = fits_tail (list (an_id low) limit) items
in_tail (list a_number limit) items = fits_tail (list a_number limit) items

abbrev pub in_range : Row → List ℕ → List ℕ → Bool
in_range (plain fs t) vs items = fits_fields fs vs && in_tail t items
in_range (optional fs f) vs items = fits_row (optional fs f) vs items
in_range uncovered vs items = false
in_range unknown vs items = false

-- "The writer gives 7 for an uncovered message, 8 for a field out of range or a list above 64, 4 for a message above 1,024 octets", in this order
unfoldable pub encode : Msg → Outcome (List ℕ)
encode m =
    cond (covers (row m.number))
    (cond (in_range (row m.number) m.values m.items)
    (cond (sized (octets_of_msg m)) (ok (octets_of_msg m)) (refuse 4))
    (refuse 8))
    (refuse 7)
