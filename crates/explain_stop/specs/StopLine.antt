-- Where the reading of a message stopped, in words, as a list of texts.
use Rattle.std.specs.Prelude.{ℕ, ◌-◌, ◌/◌, ◌%◌, ◌≡◌, cond, List, [], ◌∷◌, ◌++◌, eqb, length, get_or}
use Rattle.codec_table.specs.Columns.{tail_at}
use Rattle.codec_read.specs.Reading.{decode_of}
use Rattle.codec_stop.specs.Stops.{refusal_of, told}
use Rattle.codec_stop.specs.declared.Stop.{Stop}
use Rattle.codec_stop.specs.declared.Part.{Part}
use Rattle.codec_stop.specs.declared.Part.TheVariants.{Number, Field, Items, End}
use Rattle.codec_stop.specs.declared.Why.{Why}
use Rattle.codec_stop.specs.declared.Why.TheVariants.{Read, Size, Unknown, Uncovered, Missing, Skipped, Range, LongForm, Fragmented, Many, Empty, Wide, Padded, Left}
use Rattle.trace_io.specs.Lines.{decimal}
use Rattle.trace_io.specs.Waiting.{SaysTo}
use Rattle.trace_io.specs.declared.lines.Lines.{Lines}
use Rattle.explain_words.specs.Letters.{ascii}
use Rattle.explain_words.specs.Words.{word, placed, part_words, why_words}
use Rattle.explain_words.specs.FieldNames.{field_word}

-- what follows the fields, by its kind: its place among the words for it; behind them where nothing follows
unfoldable pub items_place : ℕ → ℕ
items_place kind = cond (eqb kind 0) 3 (kind - 1)

-- the part of a message: its number, a field or what follows the fields by name, or the end
unfoldable pub part_text : ℕ → Part → List ℕ
part_text number Number = word (placed part_words 5 3)
part_text number (Field i) = word (field_word number i)
part_text number Items = word (placed part_words 3 (items_place (tail_at number)))
part_text number End = word (placed part_words 5 4)

-- a reason's place among the words for why reading stops; behind them where they have none
abbrev pub why_place : Why → ℕ
why_place Read = 11
why_place Size = 11
why_place Uncovered = 11
why_place Unknown = 0
why_place Missing = 1
why_place Skipped = 2
why_place Range = 3
why_place LongForm = 4
why_place Fragmented = 5
why_place Many = 6
why_place Empty = 7
why_place Wide = 8
why_place Padded = 9
why_place Left = 10

-- a message's number, in the first 6 bits; of no octets 63, which no message has
unfoldable pub number_in : List ℕ → ℕ
number_in os = cond (eqb (length os) 0) 63 (get_or os 0 0 / 4)

-- an octet and a bit of it, counted from 0
unfoldable pub place_texts : ℕ → List (List ℕ)
place_texts bit = ascii "  stopped at octet " ∷ decimal (bit / 8) ∷ ascii " bit " ∷ decimal (bit % 8) ∷ []

-- the line: where reading stopped, in which part of the message, and why
unfoldable pub stop_texts : List ℕ → Stop → List (List ℕ)
stop_texts os s =
    place_texts s.bit
    ++ ascii " in " ∷ part_text (number_in os) s.part ∷ ascii ": " ∷ word (placed why_words 11 (why_place s.why)) ∷ ascii "\n" ∷ []

-- texts that may tell of a stop are said, for a stop with the refusal that decoding these octets gives
pub record Tells (os : List ℕ) (texts : Stop → List (List ℕ)) {n : ℕ} (old new : Lines n) : Type 0 where
  pub stop : Stop
  pub refusal : told stop.refusal ≡ refusal_of (decode_of os)
  pub says : SaysTo old (texts stop) new
