-- The records sent for a frame in words, as a list of texts.
use Rattle.std.specs.Prelude.{ℕ, zero, suc, ◌%◌, ◌&&◌, cond, List, [], ◌∷◌, ◌++◌, leb, ltb, eqb, length, take, drop, get_or}
use Rattle.trace_frames.specs.Frames.{size_of}
use Rattle.codec_read.specs.Held.{decoded}
use Rattle.codec_read.specs.Reading.{decode_of}
use Rattle.trace_io.specs.Lines.{decimal}
use Rattle.explain_words.specs.Letters.{ascii}
use Rattle.explain_message.specs.Messages.{message_texts}

-- the message in these octets, or what can be said of octets that are none
unfoldable pub in_words : List ℕ → List (List ℕ)
in_words os = message_texts os (decoded os (decode_of os))

-- the size of the record at the front: 2 octets of length, a version, a connection and a message; 0 where there is none
unfoldable pub record_size : List ℕ → ℕ
record_size s = cond (leb 4 (size_of s) && leb (size_of s) (length s)) (size_of s) 0

-- a record: its connection, in the fourth octet, and its message
unfoldable pub record_texts : List ℕ → List (List ℕ)
record_texts s = ascii "  to connection " ∷ decimal (get_or s 3 0) ∷ ascii ": " ∷ in_words (drop 4 s) ++ ascii "\n" ∷ []

-- the records at the front, one behind the other, no more than so many
unfoldable pub first_texts : ℕ → List ℕ → List (List ℕ)
first_texts zero s = []
first_texts (suc n) s = cond (eqb (record_size s) 0) [] (record_texts (take (record_size s) s) ++ first_texts n (drop (record_size s) s))

-- all of them: they are fewer than the octets
unfoldable pub records_texts : List ℕ → List (List ℕ)
records_texts s = first_texts (length s) s

-- the records in the first so many octets of the room; none where the room has fewer
unfoldable pub sent_texts : ℕ → List ℕ → List (List ℕ)
sent_texts sent room = cond (ltb (length room) (sent % 65536)) [] (records_texts (take (sent % 65536) room))
