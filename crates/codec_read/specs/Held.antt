-- What `decode` answers: the message, with every cell that it does not use 0; or the refusal, by its number. And the same where the ids are stored
-- in a list that is lent.
use Rattle.std.specs.Prelude.{◌≡◌, Bool, true, false, cond, not, List, [], ◌++◌, ℕ, ◌-◌, eqb, length, replicate, Result}
use Rattle.codec_octets.specs.declared.refusal.Refusal.{Refusal}
use Rattle.codec_table.specs.Answers.{outcome_of}
use Rattle.codec_table.specs.Limits.{list_limit}
use Rattle.codec_table.specs.Columns.{tail_at}
use Rattle.codec_table.specs.Codec.{Msg, Outcome, ok, refuse}
use Rattle.codec_read.specs.declared.Items.{Items}
use Rattle.codec_read.specs.declared.Items.TheVariants.{Ids, Octets}
use Rattle.codec_read.specs.declared.Decoded.{Decoded}
use Rattle.codec_read.specs.declared.Head.{Head}

-- some cells, those behind the last value 0
abbrev pub padded : ℕ → List ℕ → List ℕ
padded k vs = vs ++ replicate (k - length vs) 0

abbrev pub is_string : ℕ → Bool
is_string number = eqb (tail_at number) 3

-- a string stays where it stands in the octets, up to the place given, and only its start is said; ids are stored, and only their count is said
abbrev pub items_held : Bool → ℕ → List ℕ → Items
items_held true end items = Octets (end - length items) (length items)
items_held false end items = Ids (length items)

abbrev pub count_of : Items → ℕ
count_of (Ids count) = count
count_of (Octets start count) = count

-- a string is last
unfoldable pub held : List ℕ → Msg → Decoded
held s m =
    record {
      head = record {
        number = m.number;
        have = length m.values;
        values = padded 4 m.values;
        items = items_held (is_string m.number) (length s) m.items;
      };
      ids = padded list_limit (cond (is_string m.number) [] m.items);
    }

unfoldable pub decoded : List ℕ → Outcome Msg → Outcome Decoded
decoded s (ok m) = ok (held s m)
decoded s (refuse n) = refuse n

-- all but the ids
abbrev pub head_of : Outcome Decoded → Outcome Head
head_of (ok d) = ok d.head
head_of (refuse n) = refuse n

-- whether what follows a message's fields is a list of ids: neither nothing nor a string
abbrev pub has_ids : ℕ → Bool
has_ids kind = cond (eqb kind 0) false (not (eqb kind 3))

-- the list lent, behind a message: its ids, with 0 behind them, or what it held before
unfoldable pub kept : Msg → List ℕ → List ℕ
kept m before = cond (has_ids (tail_at m.number)) (padded list_limit m.items) before

-- a refusal may come behind some ids that are stored: nothing is said of the list then
pub record Reads (s : List ℕ) (o : Outcome Msg) (before after : List ℕ) (r : Result Head Refusal) : Type 0 where
  pub head : outcome_of r ≡ head_of (decoded s o)
  pub list : (m : Msg) → o ≡ ok m → after ≡ kept m before
