-- A torn trace in spans: document 02, "Salvage a torn trace". "Good means document 01's frame rules as amended": what `trace_frames` says.
use Rattle.std.specs.Prelude.{ℕ, zero, suc, Bool, ◌&&◌, ◌||◌, cond, List, [], ◌∷◌, ◌++◌, ltb, eqb, length, take, drop}
use Rattle.trace_frames.specs.Good.{good_size}

-- a good frame begins here
unfoldable pub begins : List ℕ → Bool
begins s = ltb 0 (good_size s)

-- "a good frame begins that is followed by another good frame or by the end"
unfoldable pub resumes : List ℕ → Bool
resumes s = begins s && (eqb (length (drop (good_size s) s)) 0 || begins (drop (good_size s) s))

-- "up to the next place": how many octets stand before the first such place; "if there is none", all of them
unfoldable pub until : List ℕ → ℕ
until [] = 0
until (o ∷ s) = cond (resumes (o ∷ s)) 0 (suc (until s))

-- a span, and its octets: a good frame, which is kept, or what is cut out
pub data Span : Type 0 where
  kept : List ℕ → Span
  cut : List ℕ → Span

abbrev pub octets_in : Span → List ℕ
octets_in (kept os) = os
octets_in (cut os) = os

-- the first span: where a good frame begins it is kept, "where no good frame begins, cut"
unfoldable pub first : List ℕ → Span
first s = cond (begins s) (kept (take (good_size s) s)) (cut (take (until s) s))

-- spans one behind the other, at most so many
unfoldable pub spans_in : ℕ → List ℕ → List Span
spans_in zero s = []
spans_in (suc k) [] = []
spans_in (suc k) (o ∷ s) = let f = first (o ∷ s) in f ∷ spans_in k (drop (length (octets_in f)) (o ∷ s))

-- each has an octet at least, so that there are no more of them than octets
unfoldable pub spans : List ℕ → List Span
spans s = spans_in (length s) s

-- the octets of all spans in their order
unfoldable pub all_octets : List Span → List ℕ
all_octets [] = []
all_octets (x ∷ xs) = octets_in x ++ all_octets xs
