-- The turns of the code's loops over a column: what is left to do at place i, in terms of what is left at the next.
use Rattle.std.specs.Prelude.{if◌then◌else◌}
use mathlib.Core.Path.{◌≡◌, refl, sym, ap, ◌∙◌}
use mathlib.Core.Bool.{Bool, true, false}
use mathlib.Core.List.{List, [], ◌∷◌, ◌++◌}
use Prim.Native.Nat.{ℕ, zero, suc, ◌+◌, ◌-◌, ◌≤◌, ◌<◌, zero-le}
use native.Mathlib.Numerals.{add-one}
use native.Mathlib.Omega.{arith}
use lib.Dec.{ltb}
use lib.ListN.{length, get_or, take, drop, drop_of_length-le, length-append, length-take}
use lib.Seq.{drop-cons, take-suc, take_all, take-add}
use borrow.Author.Tests.{eq-eqb, ne_eqb, lt-ltb, le-ltb, ltb-true, ltb-false}
use Rattle.cols_spec.specs.Sets.{keep, any, member}
use Rattle.cols_spec.specs.Places.{Place, At, Nowhere, find, used, lesser, next, rising, unused}
use Rattle.cols_spec.proofs.Order.{keep_le}

module _ (f : ℕ → Bool) where
  pub keep_append : (xs ys : List ℕ) → keep f (xs ++ ys) ≡ keep f xs ++ keep f ys
  unfolding keep
  keep_append [] ys = refl
  keep_append (x ∷ xs) ys = go (f x) (keep_append xs ys)
    where
      go : (b : Bool) → keep f (xs ++ ys) ≡ keep f xs ++ keep f ys
          → (if b then x ∷ keep f (xs ++ ys) else keep f (xs ++ ys)) ≡ (if b then x ∷ keep f xs else keep f xs) ++ keep f ys
      go true e = ap (λ (l : List ℕ). x ∷ l) e
      go false e = e

-- ---- how many are in use

used_append : (xs ys : List ℕ) → used (xs ++ ys) ≡ used xs + used ys
unfolding used
used_append xs ys = ap length (keep_append (λ z. ltb 0 z) xs ys) ∙ length-append (keep (λ z. ltb 0 z) xs) (keep (λ z. ltb 0 z) ys)

pub used_turn : (ids : List ℕ) (i : ℕ) → i < length ids → used (take (suc i) ids) ≡ used (take i ids) + used (get_or ids i 0 ∷ [])
used_turn ids i h = ap used (take-suc ids i 0 h) ∙ used_append (take i ids) (get_or ids i 0 ∷ [])

pub used_end : (ids : List ℕ) (i : ℕ) → length ids ≤ i → used (take i ids) ≡ used ids
used_end ids i h = ap used (take_all i ids h)

pub used_within : (ids : List ℕ) → used ids ≤ length ids
unfolding used
used_within ids = keep_le (λ z. ltb 0 z) ids

-- a part behind those counted
pub used_part : (ids : List ℕ) (i k : ℕ) → used (take (i + k) ids) ≡ used (take i ids) + used (take k (drop i ids))
used_part ids i k = ap used (take-add i k ids) ∙ used_append (take i ids) (take k (drop i ids))

pub part_within : (ids : List ℕ) (i k : ℕ) → used (take k (drop i ids)) ≤ k
part_within ids i k = omega (arith, used_within (take k (drop i ids)), length-take k (drop i ids))

-- one place
pub used_none : (x : ℕ) → x ≡ 0 → 0 ≡ used (x ∷ [])
unfolding used keep
used_none x e = rw e

pub used_one : (x : ℕ) → (x ≡ 0 → ⊥) → 1 ≡ used (x ∷ [])
unfolding used keep
used_one x n = rw (lt-ltb 0 x (omega arith))

-- where the last place is free not all are in use
pub used_last : (ids : List ℕ) (m : ℕ) → length ids ≡ suc m → get_or ids m 0 ≡ 0 → used ids ≤ m
used_last ids m e z =
    let turn = used_turn ids m (omega arith) in
    let most = used_within (take m ids) in
    let none = used_none (get_or ids m 0) z in
    omega (arith, used_end ids (suc m) (omega arith), length-take m ids)

-- ---- the least id above another

module _ (low best x : ℕ) where
  pub next_low : x ≤ low → best ≡ next low best (x ∷ [])
  unfolding next lesser
  next_low h = rw (le-ltb low x h)

  pub next_new : low < x → best ≡ 0 → x ≡ next low best (x ∷ [])
  unfolding next lesser
  next_new h e = rw (lt-ltb low x h, eq-eqb best 0 e)

  pub next_less : low < x → (best ≡ 0 → ⊥) → x < best → x ≡ next low best (x ∷ [])
  unfolding next lesser
  next_less h n l = rw (lt-ltb low x h, ne_eqb best 0 n, lt-ltb x best l)

  pub next_more : low < x → (best ≡ 0 → ⊥) → best ≤ x → best ≡ next low best (x ∷ [])
  unfolding next lesser
  next_more h n l = rw (lt-ltb low x h, ne_eqb best 0 n, le-ltb x best l)

-- The code holds how far behind `low` the least id stands; from 65,535 - low on it holds none.
unfoldable pub held : (low best : ℕ) → ℕ
held low best = if ltb best (65535 - low) then best + low + 1 else 0

module _ (low best : ℕ) where
  pub held_some : best < 65535 - low → held low best ≡ best + low + 1
  unfolding held
  held_some h = rw (lt-ltb best (65535 - low) h)

  pub held_none : 65535 - low ≤ best → held low best ≡ 0
  unfolding held
  held_none h = rw (le-ltb best (65535 - low) h)

-- one more place: its id x stands k behind `low`, and the lesser of k and the best is r
module _ (low best x k r : ℕ) (top : x ≤ 65535) (far : low < x → x ≡ k + low + 1) (round : x ≤ low → 65535 - low ≤ k)
    (less : k < best → r ≡ k) (more : best ≤ k → r ≡ best) where
  pub next_held : held low r ≡ next low (held low best) (x ∷ [])
  next_held = go (ltb low x) refl (ltb best (65535 - low)) refl (ltb k best) refl
    where
      old : ℕ
      old = held low best

      go : (a : Bool) → ltb low x ≡ a → (b : Bool) → ltb best (65535 - low) ≡ b → (d : Bool) → ltb k best ≡ d → held low r ≡ next low old (x ∷ [])
      go true p true q true s =
          let u = ltb-true low x p in
          let v = ltb-true best (65535 - low) q in
          let w = ltb-true k best s in
          let e = held_some low best v in
          omega (arith, far u, less w, held_some low r (omega (arith, less w)), next_less low old x u (λ z. omega arith) (omega (arith, far u)))
      go true p true q false s =
          let u = ltb-true low x p in
          let v = ltb-true best (65535 - low) q in
          let w = ltb-false k best s in
          let e = held_some low best v in
          omega (arith, more w, held_some low r (omega (arith, more w)), next_more low old x u (λ z. omega arith) (omega (arith, far u)))
      go true p false q d s =
          let u = ltb-true low x p in
          let v = ltb-false best (65535 - low) q in
          let w : k < best = omega (arith, far u) in
          let e = held_none low best v in
          omega (arith, far u, less w, held_some low r (omega (arith, far u, less w)), next_new low old x u e)
      go false p true q d s =
          let u = ltb-false low x p in
          let v = ltb-true best (65535 - low) q in
          let w : best ≤ k = omega (arith, round u) in
          omega (arith, more w, held_some low r (omega (arith, more w)), held_some low best v, next_low low old x u)
      go false p false q true s =
          let u = ltb-false low x p in
          let w = ltb-true k best s in
          omega (arith, held_none low r (omega (arith, round u, less w)), held_none low best (ltb-false best (65535 - low) q), next_low low old x u)
      go false p false q false s =
          let u = ltb-false low x p in
          let v = ltb-false best (65535 - low) q in
          let w = ltb-false k best s in
          omega (arith, held_none low r (omega (arith, more w)), held_none low best v, next_low low old x u)

-- the code's search for the least id above `low`: at place i it holds the best of those before
pub record Seeking (low : ℕ) (xs : List ℕ) (best i : ℕ) : Type 0 where
  pub within : i ≤ length xs
  pub left : next low 0 xs ≡ next low (held low best) (drop i xs)

module _ {low : ℕ} {xs : List ℕ} where
  pub seek_start : Seeking low xs 65535 0
  seek_start = record { within = zero-le; left = ap (λ (b : ℕ). next low b xs) (sym (held_none low 65535 (omega arith))) }

  module _ {best i : ℕ} (s : Seeking low xs best i) where
    pub seek_turn : (x k r : ℕ) → x ≡ get_or xs i 0 → x ≤ 65535 → i < length xs → (low < x → x ≡ k + low + 1) → (x ≤ low → 65535 - low ≤ k)
        → (k < best → r ≡ k) → (best ≤ k → r ≡ best) → Seeking low xs r (i + 1)
    unfolding next
    seek_turn x k r e top h far round less more =
        record {
          within = omega arith;
          left = rw (add-one i, next_held low best x k r top far round less more, e) (s.left ∙ ap (next low (held low best)) (drop-cons xs i 0 h));
        }

    pub seek_end : (r : ℕ) → length xs ≤ i → (best < 65535 - low → r ≡ best + low + 1) → (65535 - low ≤ best → r ≡ 0) → r ≡ next low 0 xs
    unfolding next held
    seek_end r h a b = go (ltb best (65535 - low)) refl ∙ sym (s.left ∙ ap (next low (held low best)) (drop_of_length-le xs h))
      where
        go : (t : Bool) → ltb best (65535 - low) ≡ t → r ≡ (if t then best + low + 1 else 0)
        go true q = a (ltb-true best (65535 - low) q)
        go false q = b (ltb-false best (65535 - low) q)

-- ---- members

module _ (x : ℕ) (ids : List ℕ) (i : ℕ) where
  pub member_hit : i < length ids → get_or ids i 0 ≡ x → member x (drop i ids) ≡ true
  unfolding member any
  member_hit h e = rw (drop-cons ids i 0 h) (simp (eq-eqb x (get_or ids i 0) (sym e)))

  pub member_miss : i < length ids → (get_or ids i 0 ≡ x → ⊥) → member x (drop i ids) ≡ member x (drop (suc i) ids)
  unfolding member any
  member_miss h n = rw (drop-cons ids i 0 h) (simp (ne_eqb x (get_or ids i 0) (λ q. n (sym q))))

  pub member_end : length ids ≤ i → member x (drop i ids) ≡ false
  unfolding member any
  member_end h = rw (drop_of_length-le ids h)

-- ---- a free id

module _ (n : ℕ) (ids : List ℕ) (x : ℕ) where
  pub unused_here : find ids x ≡ Nowhere → unused (suc n) ids x ≡ x
  unfolding unused
  unused_here e = ap (λ (p : Place). elim p as (λ (_ : Place). ℕ) [ Nowhere ↦ x | At i ↦ unused n ids (suc x) ]) e

  pub unused_later : (i : ℕ) → find ids x ≡ At i → unused (suc n) ids x ≡ unused n ids (suc x)
  unfolding unused
  unused_later i e = ap (λ (p : Place). elim p as (λ (_ : Place). ℕ) [ Nowhere ↦ x | At j ↦ unused n ids (suc x) ]) e

-- ---- the ids in order

module _ (n low : ℕ) (ids : List ℕ) where
  pub rising_turn : (x : ℕ) → next low 0 ids ≡ x → 0 < x → rising (suc n) low ids ≡ x ∷ rising n x ids
  unfolding rising
  rising_turn zero e h = absurd (omega arith)
  rising_turn (suc x) e h = ap (λ (y : ℕ). elim y as (λ (_ : ℕ). List ℕ) [ zero ↦ [] | suc z ↦ suc z ∷ rising n (suc z) ids ]) e

  pub rising_end : next low 0 ids ≡ 0 → rising (suc n) low ids ≡ []
  unfolding rising
  rising_end e = ap (λ (y : ℕ). elim y as (λ (_ : ℕ). List ℕ) [ zero ↦ [] | suc z ↦ suc z ∷ rising n (suc z) ids ]) e
