-- What the functions of src/ answer, as what the readers of Octets and Codec give at a place in a message's octets.
use Rattle.std.specs.Prelude.{◌≡◌, Bool, cond, List, [], ℕ, ◌+◌, ◌*◌, ◌≤◌, leb, length, take, drop, Result, Ok, Err, IfOk}
use Rattle.codec_table.specs.Limits.{list_limit}
use Rattle.codec_octets.specs.Octets.{Read, got, no, Reader, follow, give, need, read_items, Tail, nothing, list}
use Rattle.codec_table.specs.Messages.{Field, row}
use Rattle.codec_table.specs.Codec.{left_after, take_field, take_fields, take_body, take_row, Msg, Outcome, refuse, ending, decode}
use Rattle.codec_read.specs.declared.Fields.{Fields}
use Rattle.codec_read.specs.declared.Items.{Items}
use Rattle.codec_read.specs.declared.Items.TheVariants.{Ids, Octets}
use Rattle.codec_read.specs.declared.Taken.{Taken}
use Rattle.codec_read.specs.Held.{padded, items_held}
use Rattle.codec_octets.specs.declared.Got.{Got}
use Rattle.codec_octets.specs.declared.refusal.Refusal.{Refusal}
use Rattle.codec_octets.specs.Refusals.{refusal_number}
use Rattle.codec_octets.specs.Places.{left_at, bits_at, behind, EndsAt, Bitwise}
use Rattle.codec_table.specs.Columns.{count_at, tail_at, fields_of, tail_of}

-- a field of a kind, taken at a bit
abbrev pub TakesField : List ℕ → ℕ → Field → Result Got Refusal → Type 0
TakesField s at f r = Bitwise s (left_after f (left_at at)) r (take_field f (left_at at) (bits_at s at) (behind s at))

abbrev pub at_fields : List ℕ → ℕ → Result Fields Refusal → Read (List ℕ × ℕ)
at_fields s count (Ok f) = got (take count f.values, bits_at s f.at) (behind s f.at)
at_fields s count (Err r) = no (refusal_number r)

pub record TakesFields (s : List ℕ) (from : ℕ) (fs : List Field) (count : ℕ) (r : Result Fields Refusal) : Type 0 where
  pub same : at_fields s count r ≡ take_fields fs (left_at from) (bits_at s from) (behind s from)
  pub inside : IfOk r (λ f. f.at ≤ length s * 8)
  pub cells : IfOk r (λ f. (f.values ≡ padded 4 (take count f.values)) × (length (take count f.values) ≡ count))

-- a list behind its length, and the same by kind
abbrev pub rest_of : Tail → ℕ → Reader (List ℕ)
rest_of nothing n = give []
rest_of (list i limit) n = need (leb n limit) 8 (read_items i n)

unfoldable pub listed : ℕ → ℕ → Reader (List ℕ)
listed kind n = rest_of (tail_of kind) n

abbrev pub items_of : List ℕ → Items → List ℕ → List ℕ
items_of s (Octets start count) ids = take count (drop start s)
items_of s (Ids count) ids = take count ids

abbrev pub at_items : List ℕ → Result Taken Refusal → List ℕ → Read (List ℕ)
at_items s (Ok t) after = got (items_of s t.items after) (drop t.next s)
at_items s (Err r) after = no (refusal_number r)

-- a string ends where the next part starts; ids are stored in the list lent, the cells behind the last 0, and else it is as before
pub record Holds (s : List ℕ) (octets ids : Bool) (t : Taken) (before after : List ℕ) : Type 0 where
  pub items : t.items ≡ items_held octets t.next (items_of s t.items after)
  pub cells : after ≡ cond ids (padded list_limit (items_of s t.items after)) before

pub record ReadsItems (s : List ℕ) (octets ids : Bool) (r : Result Taken Refusal) (before after : List ℕ) (spec : Read (List ℕ)) : Type 0 where
  pub same : at_items s r after ≡ spec
  pub inside : IfOk r (λ t. t.next ≤ length s)
  pub holds : IfOk r (λ t. Holds s octets ids t before after)

abbrev pub message : ℕ → List ℕ × List ℕ → Reader Msg
message n r = give (record { number = n; values = r.0; items = r.1 })

unfoldable pub body_at : List ℕ → ℕ → ℕ → ℕ → Outcome Msg
body_at s at count number =
    ending (follow (take_body (fields_of number count) (tail_of (tail_at number)) (left_at at) (bits_at s at) (behind s at)) (message number))

unfoldable pub row_at : List ℕ → ℕ → ℕ → Outcome Msg
row_at s at number = ending (follow (take_row (row number) (bits_at s at) (behind s at)) (message number))

-- behind its number a message goes on with its fields, so many more than are always there; or it is refused
abbrev pub onward : List ℕ → ℕ → Result Got Refusal → Outcome Msg
onward s number (Ok more) = body_at s more.next (count_at number + more.value) number
onward s number (Err r) = refuse (refusal_number r)

abbrev pub FewMore : ℕ → Result Got Refusal → Type 0
FewMore number (Ok more) = count_at number + more.value ≤ 4
FewMore number (Err r) = Unit {0}

pub record GoesOn (s : List ℕ) (at number : ℕ) (r : Result Got Refusal) : Type 0 where
  pub same : onward s number r ≡ row_at s at number
  pub inside : EndsAt (length s * 8) r
  pub few : FewMore number r

abbrev pub decode_of : List ℕ → Outcome Msg
decode_of s = decode s
