-- A frame of a trace in words, as a list of texts.
use Rattle.std.specs.Prelude.{ℕ, ◌-◌, ◌%◌, ◌||◌, cond, List, [], ◌∷◌, ◌++◌, ltb, eqb, take, drop}
use Rattle.trace_frames.specs.Frames.{Front, over, frame, refused, front, size_of}
use Rattle.trace_frames.specs.declared.Kind.{Kind}
use Rattle.trace_frames.specs.declared.Kind.TheVariants.{Open, Loss, Message}
use Rattle.codec_read.specs.Reading.{decode_of}
use Rattle.codec_stop.specs.Stops.{refusal_of}
use Rattle.codec_stop.specs.declared.Stop.{Stop}
use Rattle.explain_stop.specs.StopLine.{stop_texts}
use Rattle.trace_io.specs.Lines.{decimal}
use Rattle.trace_io.specs.declared.lines.Report.{Report}
use Rattle.explain_words.specs.Letters.{ascii}
use Rattle.explain_words.specs.Words.{word, placed, reply_words}
use Rattle.explain_message.specs.Messages.{octets_texts}
use Rattle.domain.specs.Tables.{Tokens}
use Rattle.explain_tokens.specs.Holders.{change_texts}
use Rattle.explain_frame.specs.Sent.{in_words, sent_texts}

-- the event of a good frame: what came on which connection, and a message in words
unfoldable pub event_texts : Kind → ℕ → List ℕ → List (List ℕ)
event_texts Open connection os = ascii ": open, connection " ∷ decimal connection ∷ []
event_texts Loss connection os = ascii ": lost, connection " ∷ decimal connection ∷ []
event_texts Message connection os = ascii ": message, connection " ∷ decimal connection ∷ ascii ": " ∷ in_words os

-- the line of octets in hexadecimal
unfoldable pub octets_line : List ℕ → List (List ℕ)
octets_line os = ascii "  octets" ∷ octets_texts os ++ ascii "\n" ∷ []

-- a message that was refused, replies 4 to 8: its octets, and for 5 and 8 where reading stopped
unfoldable pub refused_texts : ℕ → List ℕ → Stop → List (List ℕ)
refused_texts reply os s =
    cond (ltb reply 4 || ltb 8 reply) [] (octets_line os ++ cond (eqb reply 5 || eqb reply 8) (stop_texts os s) [])

-- a message on a connection that is not open: its octets, where they cannot be read
unfoldable pub stray_texts : Kind → List ℕ → List (List ℕ)
stray_texts Open os = []
stray_texts Loss os = []
stray_texts Message os = cond (eqb (refusal_of (decode_of os)) 0) [] (octets_line os)

-- what was wrong with a frame's message, by the reply; 2 says that the connection is not open
unfoldable pub wrong_texts : ℕ → Kind → List ℕ → Stop → List (List ℕ)
wrong_texts reply kind os s = cond (eqb reply 2) (stray_texts kind os) (refused_texts reply os s)

-- users, channels and tokens in use
unfoldable pub counts_texts : Report → List (List ℕ)
counts_texts r = ascii ", users " ∷ decimal r.users ∷ ascii ", channels " ∷ decimal r.channels ∷ ascii ", tokens " ∷ decimal r.tokens ∷ []

-- the line of the reply: its number and meaning, how many octets were sent, and what is in use
unfoldable pub reply_texts : Report → List (List ℕ)
reply_texts r =
    ascii "  reply " ∷ decimal r.reply ∷ ascii " (" ∷ word (placed reply_words 12 (r.reply % 65536)) ∷ ascii "), sent " ∷ decimal r.sent ∷ counts_texts r ++ ascii "\n" ∷ []

-- a bad frame: as many octets as its length says, or all that are left
unfoldable pub bad_texts : List ℕ → List (List ℕ)
bad_texts s = ascii ": bad frame\n" ∷ octets_line (take (size_of s) s)

-- a good frame: its event, and what was wrong with its message
unfoldable pub good_texts : ℕ → Kind → ℕ → List ℕ → Stop → List (List ℕ)
good_texts reply kind connection os s = event_texts kind connection os ++ ascii "\n" ∷ wrong_texts reply kind os s

-- the kind of a good frame by its number
unfoldable pub kind_by : ℕ → Kind
kind_by n = cond (eqb n 0) Open (cond (eqb n 1) Loss Message)

-- the message of what stands at the front of s; none but for a good frame
unfoldable pub message_in : List ℕ → Front → List ℕ
message_in s over = []
message_in s (frame kind connection start size) = take (size - start) (drop start s)
message_in s (refused n) = []

-- what stands at the front of s: nothing, a good frame, or a bad one
unfoldable pub front_texts : ℕ → List ℕ → Front → Stop → List (List ℕ)
front_texts reply s over stop = ascii ": end\n" ∷ []
front_texts reply s (frame kind connection start size) stop = good_texts reply (kind_by kind) connection (message_in s (frame kind connection start size)) stop
front_texts reply s (refused n) stop = bad_texts s

-- a frame: its number, what stands at the front of s, the reply, the records sent, and a line for each token that changed
unfoldable pub frame_texts : ℕ → List ℕ → Report → (room names : List ℕ) → (before after : Tokens) → Stop → List (List ℕ)
frame_texts number s report room names before after stop =
    ascii "frame " ∷ decimal number ∷ front_texts report.reply s (front s) stop
    ++ reply_texts report
    ++ sent_texts report.sent room
    ++ change_texts names before after
