-- Octets in hexadecimal.
use Rattle.std.specs.Prelude.{ℕ, ◌+◌, ◌-◌, ◌/◌, ◌%◌, Bool, cond, List, [], ◌∷◌, ltb}

-- a digit: 0 to 9 from 48 on, A to F from 65 on
unfoldable pub digit_of : ℕ → ℕ
digit_of n = cond (ltb n 10) (48 + n) (65 + (n - 10) % 6)

-- an octet, behind a space, 32, where octets are to stand apart
unfoldable pub octet_text : Bool → ℕ → List ℕ
octet_text apart o = cond apart (32 ∷ digit_of (o / 16) ∷ digit_of (o % 16) ∷ []) (digit_of (o / 16) ∷ digit_of (o % 16) ∷ [])

-- the text of each octet, at any place
unfoldable pub octet_texts : Bool → ℕ → ℕ → List (List ℕ)
octet_texts apart i o = octet_text apart o ∷ []
