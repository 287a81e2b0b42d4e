-- Ids told in ascending order, and the places picked of a column. Assumes nothing.
use Rattle.std.specs.Prelude.{if◌then◌else◌}
use Prim.Native.Nat.{ℕ, zero, suc, ◌+◌, ◌-◌, ◌≤◌, ◌<◌}
use mathlib.Core.Path.{◌≡◌, refl, sym, ap, ◌∙◌}
use mathlib.Core.Bool.{Bool}
use mathlib.Core.List.{List, [], ◌∷◌, ◌++◌}
use native.Mathlib.Nat.{add-zero}
use native.Mathlib.Numerals.{add-one}
use native.Mathlib.Omega.{arith}
use lib.ListN.{length, take, get_or, set, length-set}
use lib.Seq.{take-suc, take-suc-set, take_all}
use Rattle.cols_spec.specs.Places.{next, rising, in_order}
use Rattle.cols_spec.proofs.Turns.{rising_turn, rising_end}
use Rattle.trace_io.specs.Waiting.{SaysTo}
use Rattle.trace_io.specs.declared.lines.Lines.{Lines}
use Rattle.trace_io.proofs.Saying.{Onward, onward_start, onward_step, onward_end}
use Rattle.domain.specs.declared.token.Holding.{Holding}
use Rattle.explain_tokens.specs.Holders.{over, picked_from, holding_texts}

-- a loop that tells the ids of a column in ascending order: it turned i times, and ids up to `low` are told
pub record Rising (f : ℕ → List (List ℕ)) (ids : List ℕ) {n : ℕ} (old new : Lines n) (low i : ℕ) : Type 0 where
  pub onward : Onward old (over f (in_order ids)) new (over f (rising (length ids - i) low ids))

pub rising_start : {f : ℕ → List (List ℕ)} {ids : List ℕ} {n : ℕ} {old : Lines n} → Rising f ids old old 0 0
unfolding in_order
rising_start {ids = ids} = let all : length ids - 0 ≡ length ids = omega arith in record { onward = rw all onward_start }

told : (f : ℕ → List (List ℕ)) (ids : List ℕ) (m k : ℕ) → over f (k ∷ rising m k ids) ≡ f k ++ over f (rising (suc m - 1) k ids)
unfolding over
told f ids m k = let e : m ≡ suc m - 1 = omega arith in ap (λ j. f k ++ over f (rising j k ids)) e

turned : (f : ℕ → List (List ℕ)) (ids : List ℕ) (low left k : ℕ) → k ≡ next low 0 ids → (k ≡ 0 → ⊥) → 0 < left
    → over f (rising left low ids) ≡ f k ++ over f (rising (left - 1) k ids)
turned f ids low zero k e n h = absurd (omega arith)
turned f ids low (suc m) k e n h = ap (λ l. over f l) (rising_turn m low ids k (sym e) (omega arith)) ∙ told f ids m k

pub rising_more : {f : ℕ → List (List ℕ)} {ids : List ℕ} {n : ℕ} {old mid new : Lines n} {low i : ℕ} (k : ℕ) → Rising f ids old mid low i → k ≡ next low 0 ids → (k ≡ 0 → ⊥) → i < length ids
    → SaysTo mid (f k) new → Rising f ids old new k (i + 1)
rising_more {f = f} {ids = ids} {low = low} {i = i} k t e n h s =
    let left = length ids - i in
    let rest : length ids - (i + 1) ≡ left - 1 = omega arith in
    record { onward = rw rest (onward_step (f k) (over f (rising left low ids)) t.onward (turned f ids low left k e n (omega arith)) s) }

ended : (f : ℕ → List (List ℕ)) (ids : List ℕ) (low left : ℕ) → next low 0 ids ≡ 0 → over f (rising left low ids) ≡ []
unfolding over rising
ended f ids low zero e = refl
ended f ids low (suc m) e = ap (λ l. over f l) (rising_end m low ids e)

pub rising_done : {f : ℕ → List (List ℕ)} {ids : List ℕ} {n : ℕ} {old new : Lines n} {low i : ℕ} (k : ℕ) → Rising f ids old new low i → k ≡ next low 0 ids → k ≡ 0 → SaysTo old (over f (in_order ids)) new
rising_done {f = f} {ids = ids} {low = low} {i = i} k t e z = onward_end (over f (rising (length ids - i) low ids)) t.onward (ended f ids low (length ids - i) (sym e ∙ z))

pub rising_over : {f : ℕ → List (List ℕ)} {ids : List ℕ} {n : ℕ} {old new : Lines n} {low i : ℕ} → Rising f ids old new low i → length ids ≤ i → SaysTo old (over f (in_order ids)) new
unfolding over rising
rising_over {f = f} {ids = ids} {low = low} {i = i} t h =
    let none : length ids - i ≡ 0 = omega arith in
    onward_end (over f (rising (length ids - i) low ids)) t.onward (rw none refl)

-- what is picked of a column, one place after the other
picked_at : (p : ℕ → Bool) (i j : ℕ) (xs : List ℕ) → j < length xs → get_or (picked_from p i xs) j 0 ≡ (if p (i + j) then get_or xs j 0 else 0)
unfolding picked_from
picked_at p i j [] h = absurd (omega arith)
picked_at p i zero (x ∷ xs) h = ap (λ k. if p k then x else 0) (sym (add-zero i))
picked_at p i (suc j) (x ∷ xs) h = picked_at p (suc i) j xs (omega arith) ∙ ap (λ k. if p k then get_or xs j 0 else 0) (omega arith)

picked_length : (p : ℕ → Bool) (i : ℕ) (xs : List ℕ) → length (picked_from p i xs) ≡ length xs
unfolding picked_from
picked_length p i [] = refl
picked_length p i (x ∷ xs) = ap suc (picked_length p (suc i) xs)

-- a column of 64 that becomes another, place by place: the first i places have
pub record Filled (ys : List ℕ) (i : ℕ) (xs : List ℕ) : Type 0 where
  pub inside : i ≤ 64
  pub room : length xs ≡ 64
  pub same : take i xs ≡ take i ys

pub filled_start : {ys xs : List ℕ} → length xs ≡ 64 → Filled ys 0 xs
filled_start e = record { inside = omega arith; room = e; same = refl }

pub filled_more : {ys xs : List ℕ} {i : ℕ} (v : ℕ) → length ys ≡ 64 → Filled ys i xs → i < 64 → v ≡ get_or ys i 0 → Filled ys (i + 1) (set xs i v)
filled_more {ys} {xs} {i} v n f h e =
    record {
      inside = omega arith;
      room = length-set xs i v ∙ f.room;
      same =
          rw (add-one i)
          (take-suc-set xs i v (omega (arith, f.room))
          ∙ ap (λ l. l ++ (v ∷ [])) f.same
          ∙ ap (λ z. take i ys ++ (z ∷ [])) e
          ∙ sym (take-suc ys i 0 (omega arith)));
    }

pub filled_all : {ys xs : List ℕ} {i : ℕ} → length ys ≡ 64 → Filled ys i xs → 64 ≤ i → xs ≡ ys
filled_all {ys} {xs} {i} n f h = sym (take_all i xs (omega (arith, f.room))) ∙ f.same ∙ take_all i ys (omega arith)

-- a column that becomes what is picked of another
pub picked_more : (p : ℕ → Bool) (names : List ℕ) {ids : List ℕ} {i : ℕ} (v : ℕ) → length names ≡ 64 → Filled (picked_from p 0 names) i ids → i < 64 → v ≡ (if p i then get_or names i 0 else 0)
    → Filled (picked_from p 0 names) (i + 1) (set ids i v)
picked_more p names {i = i} v n f h e =
    let low : i ≡ 0 + i = omega arith in
    filled_more v (picked_length p 0 names ∙ n) f h (e ∙ ap (λ k. if p k then get_or names i 0 else 0) low ∙ sym (picked_at p 0 i names (omega arith)))

pub picked_all : (p : ℕ → Bool) (names : List ℕ) {ids : List ℕ} {i : ℕ} → length names ≡ 64 → Filled (picked_from p 0 names) i ids → 64 ≤ i → ids ≡ picked_from p 0 names
picked_all p names n f h = filled_all (picked_length p 0 names ∙ n) f h

-- the texts of a state that is told apart
pub holding_is : (names : List ℕ) (h k : Holding) → h ≡ k → holding_texts names k ≡ holding_texts names h
holding_is names h k e = ap (λ x. holding_texts names x) (sym e)
