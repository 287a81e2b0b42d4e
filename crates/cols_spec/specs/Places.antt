-- A table of places: a list of ids, and beside it a list of cells. A place whose id is 0 is free. Any cell type.
use Rattle.std.specs.Prelude.{ℕ, zero, suc, ◌+◌, ◌*◌, ◌<◌, ◌≡◌, Bool, true, false, not, ◌&&◌, ◌||◌, List, [], ◌∷◌, eqb, ltb, length, get_or, set, if◌then◌else◌}
use Rattle.std.proofs.Math.Option.{Option, none, some}
use Rattle.cols_spec.specs.Sets.{keep, member}

-- where an id stands in a table
pub data Place : Type 0 where
  At : ℕ → Place
  Nowhere : Place

-- the first place, counted from i, that holds x
unfoldable pub first : (i x : ℕ) (xs : List ℕ) → Place
first i x [] = Nowhere
first i x (y ∷ ys) = let r = first (suc i) x ys in if eqb x y then At i else r

-- the first place, counted from i, that is in use
unfoldable pub busy : (i : ℕ) (xs : List ℕ) → Place
busy i [] = Nowhere
busy i (x ∷ xs) = let r = busy (suc i) xs in if eqb x 0 then r else At i

-- the n places from i on hold x, x + step and so on
abbrev pub InRow : (ids : List ℕ) (i n x step : ℕ) → Type 0
InRow ids i n x step = (k : ℕ) → k < n → get_or ids (i + k) 0 ≡ x + k * step

-- a place as a number; n is nowhere
unfoldable pub number : ℕ → Place → ℕ
number n (At i) = i
number n Nowhere = n

-- the place of an id in use; 0 is no id
unfoldable pub find : List ℕ → ℕ → Place
find ids x = if eqb x 0 then Nowhere else first 0 x ids

-- the place that the next new id gets
unfoldable pub spare : List ℕ → Place
spare ids = first 0 0 ids

unfoldable pub found : Place → Bool
found (At i) = true
found Nowhere = false

-- the place at which an id is written: its own, or the spare one
unfoldable pub seat : List ℕ → ℕ → Place
seat ids x = if found (find ids x) then find ids x else spare ids

-- how many places are in use
unfoldable pub used : List ℕ → ℕ
used ids = length (keep (λ x. ltb 0 x) ids)

-- of two places the one with the lesser id above `low`; 0 is no such id
unfoldable pub lesser : (low best x : ℕ) → Bool
lesser low best x = ltb low x && (eqb best 0 || ltb x best)

-- the least id above `low`, or 0
unfoldable pub next : (low best : ℕ) (xs : List ℕ) → ℕ
next low best [] = best
next low best (x ∷ xs) = next low (if lesser low best x then x else best) xs

-- the ids in use above `low`, ascending; there are at most n
unfoldable pub rising : (n low : ℕ) (ids : List ℕ) → List ℕ
rising zero low ids = []
rising (suc n) low ids = elim (next low 0 ids) [ zero ↦ [] | suc x ↦ suc x ∷ rising n (suc x) ids ]

unfoldable pub in_order : List ℕ → List ℕ
in_order ids = rising (length ids) 0 ids

-- the ids whose places, counted from i, pass a test, each at its own place; 0 at every other
unfoldable pub picked : (test : (ℕ → Bool)) (i : ℕ) (ids : List ℕ) → List ℕ
picked test i [] = []
picked test i (x ∷ ids) = (if test i then x else 0) ∷ picked test (suc i) ids

-- no id stands at two places
unfoldable pub distinct : List ℕ → Bool
distinct [] = true
distinct (x ∷ xs) = let r = distinct xs in (eqb x 0 || not (member x xs)) && r

module _ {A : Type 0} where
  -- something stored at a place; nowhere it changes nothing
  unfoldable pub store : (xs : List A) (at : Place) (a : A) → List A
  store xs (At i) a = set xs i a
  store xs Nowhere a = xs

  -- what stands at a place; nowhere it is `d`
  unfoldable pub load : (xs : List A) (at : Place) (d : A) → A
  load xs (At i) d = get_or xs i d
  load xs Nowhere d = d

  -- what becomes of a place in use: it keeps its id with a new cell, or is free and `blank`
  unfoldable pub turns_to : A → ℕ → Option A → ℕ × A
  turns_to blank x none = (0, blank)
  turns_to blank x (some c) = (x, c)

  -- what becomes of place i with id x and cell c; a free place stays as it is
  unfoldable pub becomes : (blank : A) (fate : (ℕ → ℕ → A → Option A)) (i x : ℕ) (c : A) → ℕ × A
  becomes blank fate i x c = if eqb x 0 then (x, c) else turns_to blank x (fate i x c)

  -- every place at once, from place i on: `fate` is given the place, its id and its cell
  unfoldable pub sweep : (blank : A) (fate : (ℕ → ℕ → A → Option A)) (i : ℕ) (xs : List ℕ) (cells : List A) → List (ℕ × A)
  sweep blank fate i [] cells = []
  sweep blank fate i (x ∷ ids) [] = []
  sweep blank fate i (x ∷ ids) (c ∷ cells) = becomes blank fate i x c ∷ sweep blank fate (suc i) ids cells

  -- each place from i on passes a test of the place, its id and its cell
  unfoldable pub every : (f : (ℕ → ℕ → A → Bool)) (i : ℕ) (xs : List ℕ) (cells : List A) → Bool
  every f i [] cells = true
  every f i (x ∷ ids) [] = true
  every f i (x ∷ ids) (c ∷ cells) = let r = every f (suc i) ids cells in f i x c && r

-- the lowest id from x that stands nowhere, of n + 1 ids: one of them is free where n are in use
unfoldable pub unused : (n : ℕ) (ids : List ℕ) (x : ℕ) → ℕ
unused zero ids x = x
unused (suc n) ids x = elim (find ids x) [ Nowhere ↦ x | At i ↦ unused n ids (suc x) ]
