-- What is claimed of the spans of every trace, and of what is salvaged: document 02, "Salvage a torn trace". proofs/ has the proofs.
use Rattle.std.specs.Prelude.{ℕ, ◌+◌, ◌*◌, ◌/◌, ◌^◌, ◌≤◌, ◌<◌, ◌≡◌, ◌↔◌, ◌⊎◌, true, false, List, [], ◌∷◌, ◌++◌, length}
use Rattle.trace_frames.specs.Good.{good_size}
use Rattle.codec_octets.specs.Octets.{Reader, got, number, give, ◌>>=◌}
use Rattle.salvage.specs.Spans.{begins, resumes, Span, kept, cut, spans, all_octets}
use Rattle.salvage.specs.Answer.{entry, cuts_from, output, cut_list, salvaged}

-- octets that are one good frame
pub record IsFrame (f : List ℕ) : Type 0 where
  pub some : 0 < length f
  pub good : good_size f ≡ length f

-- a trace: good frames one behind the other
pub data Trace : List ℕ → Type 0 where
  none : Trace []
  next : (f s : List ℕ) → IsFrame f → Trace s → Trace (f ++ s)

-- octets cut out, with these behind them: no good frame begins where they begin; nowhere in them one that is followed by another or by the end; and
-- behind them is the end or such a frame
pub record IsCut (os rest : List ℕ) : Type 0 where
  pub some : 0 < length os
  pub none_begins : begins (os ++ rest) ≡ false
  pub none_resumes : (a b : List ℕ) → os ≡ a ++ b → 0 < length b → resumes (b ++ rest) ≡ false
  pub ends : (rest ≡ []) ⊎ (resumes rest ≡ true)

-- spans as document 02 wants them, each with what stands behind it
abbrev pub Right : List Span → Type 0
Right [] = Unit {0}
Right (kept f ∷ xs) = IsFrame f × Right xs
Right (cut os ∷ xs) = IsCut os (all_octets xs) × Right xs

-- V1. "Kept and cut spans in order are the input"
abbrev pub AllThere : Type 0
AllThere = (s : List ℕ) → all_octets (spans s) ≡ s

-- no two cuts touch, and between two cuts are at least two frames
abbrev pub CutsApart : Type 0
CutsApart = (s : List ℕ) (before after : List Span) (a b : List ℕ) → spans s ≡ before ++ cut a ∷ cut b ∷ after → ⊥

abbrev pub TwoBetween : Type 0
TwoBetween = (s : List ℕ) (before after : List Span) (a f b : List ℕ) → spans s ≡ before ++ cut a ∷ kept f ∷ cut b ∷ after → ⊥

-- V2. a span that is kept is a good frame; one that is cut out is as document 02 says
abbrev pub KeptGood : Type 0
KeptGood = (s : List ℕ) (before after : List Span) (f : List ℕ) → spans s ≡ before ++ kept f ∷ after → IsFrame f

abbrev pub CutRight : Type 0
CutRight = (s : List ℕ) (before after : List Span) (os : List ℕ) → spans s ≡ before ++ cut os ∷ after → IsCut os (all_octets after)

-- and no other spans are so
abbrev pub OnlyThese : Type 0
OnlyThese = (s : List ℕ) (xs : List Span) → (Right xs × (all_octets xs ≡ s)) ↔ (xs ≡ spans s)

-- the list says where each cut Starts, behind all octets before it, and how long it is
abbrev pub Starts : Type 0
Starts = (before after : List Span) (os : List ℕ)
    → cuts_from 0 (before ++ cut os ∷ after) ≡ cuts_from 0 before ++ (entry (length (all_octets before)) (length os) ++ cuts_from (length (all_octets before) + length os) after)

-- an entry is read back as its start and length; in a trace of fewer than 2 ^ 64 octets both are below 2 ^ 64
abbrev pub read_entry : Reader (ℕ × ℕ)
read_entry = number 8 >>= λ start. number 8 >>= λ size. give (start, size)

abbrev pub EntryRead : Type 0
EntryRead = (start size : ℕ) (rest : List ℕ) → start < 2 ^ 64 → size < 2 ^ 64 → read_entry (entry start size ++ rest) ≡ got (start, size) rest

-- V3. "salvaging the result cuts nothing", and gives it back
abbrev pub SalvagedAgain : Type 0
SalvagedAgain = (s : List ℕ) → (output (output s) ≡ output s) × (cut_list (output s) ≡ [])

-- the result is a trace
abbrev pub ResultTrace : Type 0
ResultTrace = (s : List ℕ) → Trace (output s)

-- V4. nothing is cut exactly when the input is a trace; it is kept whole then
abbrev pub UncutExactly : Type 0
UncutExactly = (s : List ℕ) → (cut_list s ≡ []) ↔ Trace s

abbrev pub UncutWhole : Type 0
UncutWhole = (s : List ℕ) → Trace s → output s ≡ s

-- V5. rooms that never meet 9: as many octets as the trace has, and an entry for each 11 octets of it, or part of 11, and 10 octets more
abbrev pub Never9 : Type 0
Never9 = (s out list : List ℕ) → length s ≤ length out → 16 * ((length s + 10) / 11) ≤ length list → (salvaged s out list).0.reply ≡ 0
