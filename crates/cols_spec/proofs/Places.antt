-- A search for an id, ids that stand once, and a loop over the places of a table.
use Rattle.std.specs.Prelude.{if◌then◌else◌}
use mathlib.Core.Path.{◌≡◌, refl, sym, ◌∙◌}
use mathlib.Core.Bool.{Bool, true, false, not, ◌||◌}
use mathlib.Core.List.{List, [], ◌∷◌, ◌++◌, map, append-nil}
use mathlib.Core.Option.{Option}
use Prim.Native.Nat.{ℕ, suc, ◌+◌, ◌≤◌, ◌<◌}
use native.Mathlib.Nat.{le_refl}
use native.Mathlib.Numerals.{add-one}
use native.Mathlib.Omega.{arith}
use lib.Dec.{eqb}
use lib.ListN.{length, get_or, set, take, drop, drop_of_length-le}
use lib.Seq.{drop-cons, drop-set-lt, take-suc-set, append_snoc, take_all}
use borrow.Author.Tests.{eq-eqb, ne_eqb, not-true}
use Rattle.cols_spec.specs.Sets.{member}
use Rattle.cols_spec.specs.Places.{Place, At, Nowhere, first, becomes, sweep, distinct}
use Rattle.cols_spec.proofs.Bools.{and_parts}

module _ (ids : List ℕ) (x i : ℕ) where
  -- a search from i on: found at i, gone past i, and at the end
  pub first_hit : i < length ids → get_or ids i 0 ≡ x → first i x (drop i ids) ≡ At i
  unfolding first
  first_hit h e = rw (drop-cons ids i 0) (simp (eq-eqb x (get_or ids i 0) (sym e)))

  pub first_miss : i < length ids → (get_or ids i 0 ≡ x → ⊥) → first i x (drop i ids) ≡ first (suc i) x (drop (suc i) ids)
  unfolding first
  first_miss h e = rw (drop-cons ids i 0) (simp (ne_eqb x (get_or ids i 0) (λ q. e (sym q))))

  pub first_none : length ids ≤ i → first i x (drop i ids) ≡ Nowhere
  unfolding first
  first_none h = rw (drop_of_length-le ids h)

-- gone past i and the place behind it
pub first_two : (ids : List ℕ) (x i : ℕ) → i + 2 ≤ length ids → (get_or ids i 0 ≡ x → ⊥) → (get_or ids (i + 1) 0 ≡ x → ⊥)
    → first i x (drop i ids) ≡ first (i + 2) x (drop (i + 2) ids)
first_two ids x i h a b =
    let e : i + 2 ≡ suc (suc i) = omega arith in
    rw e (first_miss ids x i (omega arith) a ∙ first_miss ids x (suc i) (omega arith) (rw (add-one i) at b))

-- ---- a list with one more in front

abbrev pub shift : Place → Place
shift (At i) = At (suc i)
shift Nowhere = Nowhere

pub first_shift : (x : ℕ) (ids : List ℕ) (i : ℕ) → first (suc i) x ids ≡ shift (first i x ids)
unfolding first
first_shift x [] i = refl
first_shift x (y ∷ ids) i = go (eqb x y) (first_shift x ids (suc i))
  where
    go : (b : Bool) → first (suc (suc i)) x ids ≡ shift (first (suc i) x ids)
        → (if b then At (suc i) else first (suc (suc i)) x ids) ≡ shift (if b then At i else first (suc i) x ids)
    go true e = refl
    go false e = e

-- ---- no id stands twice

pub distinct_head : (y : ℕ) (ids : List ℕ) → distinct (y ∷ ids) ≡ true → (y ≡ 0 → ⊥) → member y ids ≡ false
unfolding distinct
distinct_head y ids m z = not-true (member y ids) (rw (ne_eqb y 0 z) at (and_parts (eqb y 0 || not (member y ids)) _ m).0)

pub distinct_tail : (y : ℕ) (ids : List ℕ) → distinct (y ∷ ids) ≡ true → distinct ids ≡ true
unfolding distinct
distinct_tail y ids m = (and_parts (eqb y 0 || not (member y ids)) _ m).1

-- ---- a loop over a table's places: `ids_from i` and `cells_from i` are the lists once the places from i on have been swept too
module _ {A : Type 0} (blank : A) (fate : ℕ → ℕ → A → Option A) where
  unfoldable pub ids_from : ℕ → List ℕ → List A → List ℕ
  ids_from i ids cells = take i ids ++ map (λ r. r.0) (sweep blank fate i (drop i ids) (drop i cells))

  unfoldable pub cells_from : ℕ → List ℕ → List A → List A
  cells_from i ids cells = take i cells ++ map (λ r. r.1) (sweep blank fate i (drop i ids) (drop i cells))

  module _ (i : ℕ) (ids : List ℕ) (cells : List A) (d : A) (hi : i < length ids) (hc : i < length cells) where
    abbrev after : ℕ × A
    after = becomes blank fate i (get_or ids i 0) (get_or cells i d)

    swept : sweep blank fate i (drop i ids) (drop i cells) ≡ after ∷ sweep blank fate (suc i) (drop (suc i) (set ids i after.0)) (drop (suc i) (set cells i after.1))
    unfolding sweep
    swept = rw (drop-cons ids i 0 hi, drop-cons cells i d hc, drop-set-lt (suc i) ids i after.0 (le_refl (suc i)), drop-set-lt (suc i) cells i after.1 (le_refl (suc i)))

    -- a turn of the loop stores what place i becomes
    pub ids_step : ids_from i ids cells ≡ ids_from (suc i) (set ids i after.0) (set cells i after.1)
    unfolding ids_from
    ids_step = rw (swept, take-suc-set ids i after.0 hi) (sym (append_snoc (take i ids) after.0 _))

    pub cells_step : cells_from i ids cells ≡ cells_from (suc i) (set ids i after.0) (set cells i after.1)
    unfolding cells_from
    cells_step = rw (swept, take-suc-set cells i after.1 hc) (sym (append_snoc (take i cells) after.1 _))

  pub ids_end : (i : ℕ) (ids : List ℕ) (cells : List A) → length ids ≤ i → ids_from i ids cells ≡ ids
  unfolding ids_from sweep
  ids_end i ids cells h = rw (take_all i ids h, drop_of_length-le ids h) (append-nil ids)

  pub cells_end : (i : ℕ) (ids : List ℕ) (cells : List A) → length ids ≤ i → length cells ≤ i → cells_from i ids cells ≡ cells
  unfolding cells_from sweep
  cells_end i ids cells h k = rw (take_all i cells k, drop_of_length-le ids h) (append-nil cells)

  -- the loop as a whole: `ids` and `cells` are swept up to place i, from `ids₀` and `cells₀`
  pub record Sweeping (ids₀ : List ℕ) (cells₀ : List A) (i : ℕ) (ids : List ℕ) (cells : List A) : Type 0 where
    pub ids_are : ids_from i ids cells ≡ map (λ r. r.0) (sweep blank fate 0 ids₀ cells₀)
    pub cells_are : cells_from i ids cells ≡ map (λ r. r.1) (sweep blank fate 0 ids₀ cells₀)

  pub sweep_start : (ids : List ℕ) (cells : List A) → Sweeping ids cells 0 ids cells
  unfolding ids_from cells_from
  sweep_start ids cells = record { ids_are = refl; cells_are = refl }

  module _ {ids₀ : List ℕ} {cells₀ : List A} {i : ℕ} {ids : List ℕ} {cells : List A} (s : Sweeping ids₀ cells₀ i ids cells) (d : A) where
    module _ (hi : i < length ids) (hc : i < length cells) where
      -- a turn stores the id and the cell that place i gets
      pub sweep_turn : (x : ℕ) (c : A) → becomes blank fate i (get_or ids i 0) (get_or cells i d) ≡ (x, c) → Sweeping ids₀ cells₀ (suc i) (set ids i x) (set cells i c)
      sweep_turn x c e = record {
        ids_are = rw e at (sym (ids_step i ids cells d hi hc)) ∙ s.ids_are;
        cells_are = rw e at (sym (cells_step i ids cells d hi hc)) ∙ s.cells_are;
      }

    pub sweep_end : length ids ≤ i → length cells ≤ i
        → (ids ≡ map (λ r. r.0) (sweep blank fate 0 ids₀ cells₀)) × (cells ≡ map (λ r. r.1) (sweep blank fate 0 ids₀ cells₀))
    sweep_end hi hc = (sym (ids_end i ids cells hi) ∙ s.ids_are, sym (cells_end i ids cells hi hc) ∙ s.cells_are)
