-- The table of words: each row is its word and dots, found by what stands before the first dot. Assumes nothing.
use Prim.Native.Nat.{ℕ, zero, suc, ◌+◌, ◌-◌, ◌*◌, ◌≤◌, ◌<◌}
use Prim.Native.String.{String}
use mathlib.Core.Path.{◌≡◌, refl, sym, ap, ◌∙◌}
use mathlib.Core.Bool.{Bool, true, false, cond, not, ◌&&◌, false≢true}
use mathlib.Core.List.{List, [], ◌∷◌, ◌++◌, append-nil, append_assoc}
use native.Mathlib.Omega.{arith}
use native.Mathlib.Numerals.{add-one}
use borrow.Author.Tests.{ne_eqb, eq-eqb, not-true, le-leb, lt-leb, leb-true}
use borrow.Author.Rules.{rules}
use lib.Dec.{eqb, leb}
use lib.ListN.{length, take, drop, get_or, replicate, length-append, length-replicate, drop_of_length-le, get_or-eq_default}
use lib.Seq.{drop-cons, take-suc, take-append_seam, drop-append-add}
use Rattle.explain_words.specs.Letters.{ascii}
use Rattle.explain_words.specs.Words.{words, word, padded, rows_of, rows, front, placed, Fronts}

-- a search for the first dot
pub record Fronting (s : List ℕ) (i : ℕ) : Type 0 where
  pub same : take i s ++ front (drop i s) ≡ front s
  pub inside : i ≤ length s

pub front_start : {s : List ℕ} → Fronting s 0
front_start = record { same = refl; inside = search rules }

pub front_dot : {s : List ℕ} {i : ℕ} → Fronting s i → i < length s → get_or s i 0 ≡ 46 → Fronts s i
unfolding front
front_dot {s} {i} f h e =
    record { same = sym (append-nil (take i s)) ∙ ap (λ l. take i s ++ l) (sym (rw (drop-cons s i 0 h, eq-eqb (get_or s i 0) 46 e) refl)) ∙ f.same; inside = f.inside }

pub front_more : {s : List ℕ} {i : ℕ} → Fronting s i → i < length s → (get_or s i 0 ≡ 46 → ⊥) → Fronting s (i + 1)
unfolding front
front_more {s} {i} f h e =
    record {
      same =
          rw (add-one, take-suc s i 0 h, append_assoc (take i s) (get_or s i 0 ∷ []) (front (drop (suc i) s)))
          (ap (λ l. take i s ++ l) (sym (rw (drop-cons s i 0 h, ne_eqb (get_or s i 0) 46 e) refl)) ∙ f.same);
      inside = omega arith;
    }

pub front_end : {s : List ℕ} {i : ℕ} → Fronting s i → length s ≤ i → Fronts s i
unfolding front
front_end {s} {i} f h =
    record { same = sym (append-nil (take i s)) ∙ ap (λ l. take i s ++ l) (sym (rw (drop_of_length-le s {i = i} h) refl)) ∙ f.same; inside = f.inside }

-- what a test of two tells of each
and_left : (a b : Bool) → (a && b) ≡ true → a ≡ true
and_left true b e = refl
and_left false b e = e

and_right : (a b : Bool) → (a && b) ≡ true → b ≡ true
and_right true b e = e
and_right false b e = absurd (false≢true e)

-- a text with no dot stands before the dots
plain : List ℕ → Bool
plain [] = true
plain (x ∷ xs) = not (eqb x 46) && plain xs

front_dots : (k : ℕ) → front (replicate k 46) ≡ []
unfolding front
front_dots zero = refl
front_dots (suc k) = refl

cut_plain : (x : ℕ) (l t : List ℕ) → not (eqb x 46) ≡ true → l ≡ t → cond (eqb x 46) [] (x ∷ l) ≡ x ∷ t
cut_plain x l t e h = rw (not-true (eqb x 46) e, h) refl

front_plain : (t : List ℕ) (k : ℕ) → plain t ≡ true → front (t ++ replicate k 46) ≡ t
unfolding front plain
front_plain [] k e = front_dots k
front_plain (x ∷ t) k e = cut_plain x (front (t ++ replicate k 46)) t (and_left (not (eqb x 46)) (plain t) e) (front_plain t k (and_right (not (eqb x 46)) (plain t) e))

-- no word has a dot: a test that is computed over the table
all_plain : List String → Bool
all_plain [] = true
all_plain (w ∷ ws) = plain (ascii w) && all_plain ws

plain_at : (ws : List String) (n : ℕ) → all_plain ws ≡ true → plain (ascii (get_or ws n "?")) ≡ true
unfolding all_plain plain ascii
plain_at [] n e = refl
plain_at (w ∷ ws) zero e = and_left (plain (ascii w)) (all_plain ws) e
plain_at (w ∷ ws) (suc n) e = plain_at ws n (and_right (plain (ascii w)) (all_plain ws) e)

pub front_word : (n : ℕ) → front (padded (word n)) ≡ word n
unfolding padded word words all_plain plain ascii
front_word n = front_plain (word n) (24 - length (word n)) (plain_at words n refl)

-- every word fits its row: a test that is computed over the table
fit : List String → Bool
fit [] = true
fit (w ∷ ws) = leb (length (ascii w)) 24 && fit ws

padded_length : (t : List ℕ) → length t ≤ 24 → length (padded t) ≡ 24
unfolding padded
padded_length t h = length-append t (replicate (24 - length t) 46) ∙ rw (length-replicate {A = ℕ} (24 - length t) 46) (omega arith)

-- the row of a word among the rows of some words
row_of : (ws : List String) (n : ℕ) → fit ws ≡ true → n ≤ length ws → take 24 (drop (n * 24) (rows_of ws)) ≡ padded (ascii (get_or ws n "?"))
unfolding rows_of fit padded ascii
row_of [] n f h = let none : n ≡ 0 = omega arith in rw none refl
row_of (w ∷ ws) zero f h =
    let size = padded_length (ascii w) (leb-true (length (ascii w)) 24 (and_left (leb (length (ascii w)) 24) (fit ws) f)) in
    ap (λ (k : ℕ). take k (padded (ascii w) ++ rows_of ws)) (sym size) ∙ take-append_seam (padded (ascii w)) (rows_of ws)
row_of (w ∷ ws) (suc n) f h =
    let size = padded_length (ascii w) (leb-true (length (ascii w)) 24 (and_left (leb (length (ascii w)) 24) (fit ws) f)) in
    let next : suc n * 24 ≡ length (padded (ascii w)) + n * 24 = omega (arith, size) in
    ap (λ (k : ℕ). take 24 (drop k (padded (ascii w) ++ rows_of ws))) next ∙ ap (take 24) (drop-append-add (padded (ascii w)) (rows_of ws) (n * 24))
    ∙ row_of ws n (and_right (leb (length (ascii w)) 24) (fit ws) f) (omega arith)

pub row_at : (n : ℕ) → n ≤ 125 → take 24 (drop (n * 24) rows) ≡ padded (word n)
unfolding rows word words fit ascii
row_at n h = row_of words n refl h

pub row_none : (n : ℕ) → 125 ≤ n → take 24 (drop 3000 rows) ≡ padded (word n)
unfolding word words
row_none n h = row_at 125 (omega arith) ∙ ap (λ s. padded (ascii s)) (sym (get_or-eq_default words "?" h))

-- what stands before the dots of a row is its word
pub word_of_row : (n r k : ℕ) → take 24 (drop r rows) ≡ padded (word n) → Fronts (take (r + 24 - r) (drop r rows)) k → take k (take (r + 24 - r) (drop r rows)) ≡ word n
word_of_row n r k e f =
    let wide : r + 24 - r ≡ 24 = omega arith in
    f.same ∙ ap (λ (w : ℕ). front (take w (drop r rows))) wide ∙ ap front e ∙ front_word n

-- where a value has its word
pub placed_past : (group count value : ℕ) → count ≤ value → word 125 ∷ [] ≡ word (placed group count value) ∷ []
unfolding placed
placed_past group count value h = rw (le-leb count value h) refl

pub placed_nowhere : (group count value : ℕ) → value < count → 125 ≤ group → word 125 ∷ [] ≡ word (placed group count value) ∷ []
unfolding placed
placed_nowhere group count value h g = rw (lt-leb count value h, le-leb 125 group g) refl

pub placed_at : (group count value : ℕ) → value < count → group < 125 → word (group + value) ∷ [] ≡ word (placed group count value) ∷ []
unfolding placed
placed_at group count value h g = rw (lt-leb count value h, lt-leb 125 group g) refl
