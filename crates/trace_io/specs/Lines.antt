-- The lines that a trace prints.
use Rattle.std.specs.Prelude.{ℕ, zero, suc, ◌+◌, ◌/◌, ◌%◌, ◌≤◌, ◌≡◌, cond, List, [], ◌∷◌, ◌++◌, leb, ltb, length, take}
use Rattle.std.proofs.lemmas.List.Edits.{sets}
use Rattle.trace_io.specs.declared.lines.Report.{Report}

-- a number in decimal, on at most so many digits: the last digit behind the others
unfoldable pub digits_in : ℕ → ℕ → List ℕ
digits_in zero n = []
digits_in (suc k) n = cond (ltb n 10) ((48 + n) ∷ []) (digits_in k (n / 10) ++ ((48 + n % 10) ∷ []))

-- a number below 2 ^ 64 in decimal
abbrev pub decimal : ℕ → List ℕ
decimal n = digits_in 20 n

-- a number and the mark behind it
unfoldable pub field : ℕ → ℕ → List ℕ
field n mark = decimal n ++ mark ∷ []

-- "prints: reply, octets sent, users, channels, tokens in use": a space, 32, between them and a line's end, 10, behind
unfoldable pub line_of : Report → List ℕ
line_of r = field r.reply 32 ++ field r.sent 32 ++ field r.users 32 ++ field r.channels 32 ++ field r.tokens 10

-- octets are put behind the first `at` of a text; n is the place behind them
pub record Adds (s : List ℕ) (at : ℕ) (os t : List ℕ) (n : ℕ) : Type 0 where
  pub laid : take n t ≡ take at s ++ os
  pub most : n ≤ at + 21

-- a buffer and how many of its octets wait to be written: with the text behind those that waited, or, where there is no room, the text alone, or none.
-- `sets s at os` is s with os in it from the place `at` on.
abbrev pub collected : List ℕ → ℕ → List ℕ → List ℕ × ℕ
collected out filled text =
    cond (leb (filled + length text) (length out))
    (sets out filled text, filled + length text)
    (cond (leb (length text) (length out)) (sets out 0 text, length text) (out, 0))

-- texts put one behind the other, each as `collected` puts it
unfoldable pub said : List ℕ × ℕ → List (List ℕ) → List ℕ × ℕ
said s [] = s
said s (t ∷ ts) = said (collected s.0 s.1 t) ts

-- a buffer o with f octets that wait is x with r of them once these texts are put
pub record Says (o : List ℕ) (f : ℕ) (ts : List (List ℕ)) (x : List ℕ) (r : ℕ) : Type 0 where
  pub same : (x, r) ≡ said (o, f) ts

-- the texts of each element of a list and its place, counted from i
unfoldable pub each : (ℕ → ℕ → List (List ℕ)) → ℕ → List ℕ → List (List ℕ)
each f i [] = []
each f i (x ∷ xs) = f i x ++ each f (suc i) xs
