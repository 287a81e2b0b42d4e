-- Rows at the first places of a table: what is found of an id is what its row says, and free places are blank. Ids in order stand once, and are as many as are in
-- use at most. Assumes nothing.
use Rattle.std.specs.Prelude.{if◌then◌else◌}
use mathlib.Core.Path.{◌≡◌, refl, sym, ap, ◌∙◌}
use mathlib.Core.Bool.{Bool, true, false, not, ◌||◌, false≢true, or-true}
use mathlib.Core.List.{List, [], ◌∷◌, ◌++◌, map}
use mathlib.Core.Option.{Option, none, some}
use Prim.Native.Nat.{ℕ, zero, suc, ◌+◌, ◌-◌, ◌≤◌, ◌<◌, suc-le-suc, zero-le}
use native.Mathlib.Omega.{arith}
use lib.Dec.{eqb, ltb}
use lib.ListN.{length, get_or, replicate, length-append, length-replicate, length-map}
use borrow.Author.Tests.{eq-eqb, ne_eqb, eqb-true, eqb-false}
use Rattle.cols_spec.specs.Sets.{keep, any, each, member}
use Rattle.cols_spec.specs.Places.{Place, At, Nowhere, first, find, next, rising, in_order, distinct, used}
use Rattle.cols_spec.proofs.Bools.{and_both, or_elim}
use Rattle.cols_spec.proofs.Places.{shift, first_shift}
use Rattle.cols_spec.proofs.Members.{member_append}
use Rattle.cols_spec.proofs.Order.{above, above_less, in_order_length}
use Rattle.cols_spec.proofs.Kept.{next_is_there}
use Rattle.cols_spec.proofs.Rows.{Apart}
use Rattle.cols_spec.proofs.Table.{Table}
use Rattle.domain.specs.Tables.{seen}
use Rattle.domain_laws.specs.View.{row, pick}
use Rattle.domain_laws.specs.Built.{padded}
use Rattle.domain.proofs.invariant.Tests.{distinct_apart}

-- what becomes of what is said, if anything is
abbrev pub mapped : {A B : Type 0} → (A → B) → Option A → Option B
mapped f none = none
mapped f (some a) = some (f a)

-- ---- what is found

first_zeros : (x k : ℕ) → 0 < x → first 0 x (replicate k 0) ≡ Nowhere
unfolding first
first_zeros x zero h = refl
first_zeros x (suc k) h = rw (ne_eqb x 0 (λ e. omega (arith, h, e))) (first_shift x (replicate k 0) 0 ∙ ap shift (first_zeros x k h))

module _ {A B : Type 0} (f : A → B) (blank dft : B) (x : ℕ) (xz : 0 < x) where
  rows_first : (k l : ℕ) (rs : List (ℕ × A))
      → seen (first 0 x (map (λ r. r.0) rs ++ replicate k 0)) none (λ j. some (get_or (map (λ r. f r.1) rs ++ replicate l blank) j dft)) ≡ mapped f (pick x rs)
  unfolding first pick
  rows_first k l [] = ap (λ (w : Place). seen w none (λ j. some (get_or (replicate l blank) j dft))) (first_zeros x k xz)
  rows_first k l (r ∷ rs) = go (eqb x r.0) (rows_first k l rs)
    where
      ids : List ℕ
      ids = map (λ r. r.0) rs ++ replicate k 0

      cells : List B
      cells = map (λ r. f r.1) rs ++ replicate l blank

      later : (w : Place) → seen (shift w) none (λ j. some (get_or (f r.1 ∷ cells) j dft)) ≡ seen w none (λ j. some (get_or cells j dft))
      later (At i) = refl
      later Nowhere = refl

      go : (b : Bool) → seen (first 0 x ids) none (λ j. some (get_or cells j dft)) ≡ mapped f (pick x rs)
          → seen (if b then At 0 else first 1 x ids) none (λ j. some (get_or (f r.1 ∷ cells) j dft)) ≡ mapped f (if b then some r.1 else pick x rs)
      go true h = refl
      go false h = ap (λ (w : Place). seen w none (λ j. some (get_or (f r.1 ∷ cells) j dft))) (first_shift x ids 0) ∙ later (first 0 x ids) ∙ h

-- what is found of id x in a table that is built so
pub rows_found : {A B : Type 0} (f : (A → B)) (n : ℕ) (blank dft : B) (rs : List (ℕ × A)) → pick 0 rs ≡ none → (x : ℕ)
    → seen (find (padded n 0 (map (λ r. r.0) rs)) x) none (λ j. some (get_or (padded n blank (map (λ r. f r.1) rs)) j dft)) ≡ mapped f (pick x rs)
unfolding find padded
rows_found {B} f n blank dft rs e x = go (eqb x 0) refl
  where
    ids : List ℕ
    ids = map (λ r. r.0) rs

    cells : List B
    cells = map (λ r. f r.1) rs

    go : (b : Bool) → eqb x 0 ≡ b → seen (if b then Nowhere else first 0 x (ids ++ replicate (n - length ids) 0)) none (λ j. some (get_or (cells ++ replicate (n - length cells) blank) j dft)) ≡ mapped f (pick x rs)
    go true q = sym (ap (mapped f) (ap (λ (y : ℕ). pick y rs) (eqb-true x 0 q) ∙ e))
    go false q = rows_first f blank dft x (omega (arith, eqb-false x 0 q)) (n - length ids) (n - length cells) rs

-- ---- sizes

pub padded_size : {A : Type 0} (n : ℕ) (blank : A) (xs : List A) → length xs ≤ n → length (padded n blank xs) ≡ n
unfolding padded
padded_size n blank xs h = length-append xs _ ∙ ap (λ (k : ℕ). length xs + k) (length-replicate (n - length xs) blank) ∙ omega arith

-- ---- ids in order

rising_in : (n low : ℕ) (ids : List ℕ) (x : ℕ) → member x (rising n low ids) ≡ true → (member x ids ≡ true) × (low < x)
unfolding rising member any
rising_in zero low ids x h = absurd (false≢true h)
rising_in (suc n) low ids x h = go (next low 0 ids) refl h (λ y. rising_in n y ids x)
  where
    go : (y : ℕ) → next low 0 ids ≡ y → member x (elim y as (λ (_ : ℕ). List ℕ) [ zero ↦ [] | suc z ↦ suc z ∷ rising n (suc z) ids ]) ≡ true
        → ((z : ℕ) → member x (rising n z ids) ≡ true → (member x ids ≡ true) × (z < x)) → (member x ids ≡ true) × (low < x)
    go zero e m rec = absurd (false≢true m)
    go (suc z) e m rec = let w = next_is_there low ids (λ q. omega (arith, e, q)) in
        or_elim (eqb x (suc z)) (member x (rising n (suc z) ids)) m
        (λ q. let s : x ≡ suc z = eqb-true x (suc z) q in (ap (λ (y : ℕ). member y ids) (s ∙ sym e) ∙ w.1, omega (arith, w.0, e, s)))
        (λ q. let r = rec (suc z) q in (r.0, omega (arith, r.1, w.0, e)))

pub in_order_in : (ids : List ℕ) (x : ℕ) → member x (in_order ids) ≡ true → (member x ids ≡ true) × (0 < x)
unfolding in_order
in_order_in ids x h = rising_in (length ids) 0 ids x h

pub zeros_none : (x k : ℕ) → 0 < x → member x (replicate k 0) ≡ false
unfolding member any
zeros_none x zero h = refl
zeros_none x (suc k) h = rw (ne_eqb x 0 (λ e. omega (arith, h, e))) (zeros_none x k h)

zeros_distinct : (k : ℕ) → distinct (replicate k 0) ≡ true
unfolding distinct
zeros_distinct zero = refl
zeros_distinct (suc k) = zeros_distinct k

rising_distinct : (n low k : ℕ) (ids : List ℕ) → distinct (rising n low ids ++ replicate k 0) ≡ true
unfolding rising distinct
rising_distinct zero low k ids = zeros_distinct k
rising_distinct (suc n) low k ids = go (next low 0 ids) (λ y. rising_distinct n y k ids)
  where
    go : (y : ℕ) → ((z : ℕ) → distinct (rising n z ids ++ replicate k 0) ≡ true)
        → distinct ((elim y as (λ (_ : ℕ). List ℕ) [ zero ↦ [] | suc z ↦ suc z ∷ rising n (suc z) ids ]) ++ replicate k 0) ≡ true
    go zero rec = zeros_distinct k
    go (suc z) rec = and_both alone (rec (suc z))
      where
        none_twice : (b : Bool) → member (suc z) (rising n (suc z) ids) ≡ b → (eqb (suc z) 0 || not (b || false)) ≡ true
        none_twice true q = absurd (omega (arith, (rising_in n (suc z) ids (suc z) q).1))
        none_twice false q = or-true (eqb (suc z) 0)

        alone : (eqb (suc z) 0 || not (member (suc z) (rising n (suc z) ids ++ replicate k 0))) ≡ true
        alone = rw (member_append (suc z) (rising n (suc z) ids) (replicate k 0), zeros_none (suc z) k (omega arith)) (none_twice (member (suc z) (rising n (suc z) ids)) refl)

in_order_distinct : (n : ℕ) (ids : List ℕ) → distinct (padded n 0 (in_order ids)) ≡ true
unfolding padded in_order
in_order_distinct n ids = rising_distinct (length ids) 0 (n - length (rising (length ids) 0 ids)) ids

-- ---- the ids of rows

pub names_of : {A : Type 0} (f : (ℕ → Option A)) (xs : List ℕ) → ((x : ℕ) → member x xs ≡ true → f x ≡ none → ⊥) → map (λ r. r.0) (each (λ u. row u (f u)) xs) ≡ xs
unfolding each member any
names_of f [] h = refl
names_of {A} f (x ∷ xs) h = go (f x) refl (names_of f xs (λ y m. h y (rw m (or-true (eqb y x)))))
  where
    go : (o : Option A) → f x ≡ o → map (λ r. r.0) (each (λ u. row u (f u)) xs) ≡ xs → map (λ r. r.0) (row x o ++ each (λ u. row u (f u)) xs) ≡ (x ∷ xs)
    go none q rec = absurd (h x (rw (eq-eqb x x refl)) q)
    go (some a) q rec = ap (λ (l : List ℕ). x ∷ l) rec

pub rows_size : {A : Type 0} (rs : List (ℕ × A)) (xs : List ℕ) → map (λ r. r.0) rs ≡ xs → length rs ≡ length xs
rows_size rs xs e = sym (length-map rs (λ r. r.0)) ∙ ap length e

-- ---- free places

blanks : {A : Type 0} (k i : ℕ) (blank : A) → get_or (replicate k blank) i blank ≡ blank
blanks zero i blank = refl
blanks (suc k) zero blank = refl
blanks (suc k) (suc i) blank = blanks k i blank

rows_free : {A B : Type 0} (f : (A → B)) (blank : B) (k l : ℕ) (rs : List (ℕ × A)) → ((x : ℕ) → member x (map (λ r. r.0) rs) ≡ true → 0 < x) → (i : ℕ)
    → get_or (map (λ r. r.0) rs ++ replicate k 0) i 0 ≡ 0 → get_or (map (λ r. f r.1) rs ++ replicate l blank) i blank ≡ blank
unfolding member any
rows_free f blank k l [] h i e = blanks l i blank
rows_free f blank k l (r ∷ rs) h zero e = absurd (omega (arith, e, h r.0 (rw (eq-eqb r.0 r.0 refl))))
rows_free f blank k l (r ∷ rs) h (suc i) e = rows_free f blank k l rs (λ x m. h x (rw m (or-true (eqb x r.0)))) i e

padded_free : {A B : Type 0} (f : (A → B)) (n : ℕ) (blank : B) (rs : List (ℕ × A)) (ids : List ℕ) → map (λ r. r.0) rs ≡ in_order ids → (i : ℕ)
    → get_or (padded n 0 (map (λ r. r.0) rs)) i 0 ≡ 0 → get_or (padded n blank (map (λ r. f r.1) rs)) i blank ≡ blank
unfolding padded
padded_free f n blank rs ids e i h = rows_free f blank (n - length (map (λ r. r.0) rs)) (n - length (map (λ r. f r.1) rs)) rs (λ x m. (in_order_in ids x (sym (ap (member x) e) ∙ m)).1) i h

-- ---- a place of a table that is built so: its id and its cell

pub padded_at : {A B : Type 0} (f : (A → B)) (n : ℕ) (blank : B) (rs : List (ℕ × A)) → pick 0 rs ≡ none → (x i : ℕ) → find (padded n 0 (map (λ r. r.0) rs)) x ≡ At i
    → some (get_or (padded n blank (map (λ r. f r.1) rs)) i blank) ≡ mapped f (pick x rs)
padded_at f n blank rs z x i e = ap (λ (w : Place). seen w none (λ j. some (get_or (padded n blank (map (λ r. f r.1) rs)) j blank))) (sym e) ∙ rows_found f n blank blank rs z x

-- ---- how many are in use

zeros_unused : (k : ℕ) → used (replicate k 0) ≤ 0
unfolding used keep
zeros_unused zero = zero-le
zeros_unused (suc k) = zeros_unused k

used_short : (xs : List ℕ) (k : ℕ) → used (xs ++ replicate k 0) ≤ length xs
unfolding used keep
used_short [] k = zeros_unused k
used_short (x ∷ xs) k = go (ltb 0 x) (used_short xs k)
  where
    rest : List ℕ
    rest = keep (λ z. ltb 0 z) (xs ++ replicate k 0)

    go : (b : Bool) → length rest ≤ length xs → length (if b then x ∷ rest else rest) ≤ suc (length xs)
    go true h = suc-le-suc h
    go false h = omega arith

rising_above : (n low : ℕ) (ids : List ℕ) → length (rising n low ids) ≤ above low ids
unfolding rising
rising_above zero low ids = zero-le
rising_above (suc n) low ids = go (next low 0 ids) refl (λ y. rising_above n y ids)
  where
    go : (y : ℕ) → next low 0 ids ≡ y → ((z : ℕ) → length (rising n z ids) ≤ above z ids) → length {A = ℕ} (elim y as (λ (_ : ℕ). List ℕ) [ zero ↦ [] | suc z ↦ suc z ∷ rising n (suc z) ids ]) ≤ above low ids
    go zero e rec = zero-le
    go (suc z) e rec =
        let w = next_is_there low ids (λ q. omega (arith, e, q)) in
        let l : above (suc z) ids < above low ids = above_less low (suc z) ids (omega (arith, w.0, e)) (ap (λ (y : ℕ). member y ids) (sym e) ∙ w.1) in
        omega (arith, l, rec (suc z))

padded_used : (n : ℕ) (ids : List ℕ) → used (padded n 0 (in_order ids)) ≤ used ids
unfolding padded in_order used above
padded_used n ids = omega (arith, used_short (rising (length ids) 0 ids) (n - length (rising (length ids) 0 ids)), rising_above (length ids) 0 ids)

-- ---- a table of rows whose ids are those of another table, in order

module _ {A B : Type 0} (f : (A → B)) (n : ℕ) (blank : B) (rs : List (ℕ × A)) (ids : List ℕ) (names : map (λ r. r.0) rs ≡ in_order ids) (size : length ids ≡ n) where
  pub rows_few : length rs ≤ n
  rows_few = omega (arith, rows_size rs _ names, in_order_length ids, size)

  pub built_apart : Apart (padded n 0 (map (λ r. r.0) rs))
  built_apart = distinct_apart _ (ap (λ (l : List ℕ). distinct (padded n 0 l)) names ∙ in_order_distinct n ids)

  pub built_table : (lim : ℕ) (P : (ℕ → ℕ → B → Type 0)) → used ids ≤ lim
      → ((i : ℕ) → 0 < get_or (padded n 0 (map (λ r. r.0) rs)) i 0 → P i (get_or (padded n 0 (map (λ r. r.0) rs)) i 0) (get_or (padded n blank (map (λ r. f r.1) rs)) i blank))
      → Table n lim blank P (padded n 0 (map (λ r. r.0) rs)) (padded n blank (map (λ r. f r.1) rs))
  built_table lim P few law = record {
    ids_size = padded_size n 0 _ (omega (arith, length-map rs (λ r. r.0), rows_few));
    cells_size = padded_size n blank _ (omega (arith, length-map rs (λ r. f r.1), rows_few));
    apart = built_apart;
    counted = omega (arith, few, ap (λ (l : List ℕ). used (padded n 0 l)) names, padded_used n ids);
    free = padded_free f n blank rs ids names;
    rows = law;
  }
