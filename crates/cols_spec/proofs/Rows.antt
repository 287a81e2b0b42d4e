-- A table by its places: what one place holds after a change of one place, and of all; where an id stands; how many are in use.
use Rattle.std.specs.Prelude.{if◌then◌else◌}
use mathlib.Core.Path.{◌≡◌, refl, sym, ap, ◌∙◌, subst}
use mathlib.Core.Bool.{Bool, true, false, true≢false}
use mathlib.Core.List.{List, [], ◌∷◌, map}
use mathlib.Core.Option.{Option}
use Prim.Native.Nat.{ℕ, zero, suc, ◌+◌, ◌≤◌, ◌<◌, zero-le, suc-le-suc}
use native.Mathlib.Nat.{suc_inj, suc-ne-zero, zero-lt-suc, le_of_suc-le-suc, suc-add, add-suc, add-zero}
use native.Mathlib.Omega.{arith}
use lib.Dec.{eqb, ltb}
use lib.ListN.{length, get_or, set}
use lib.Seq.{get_or-set_same, get_or-set_other}
use borrow.Author.Tests.{eq-eqb, ne_eqb, eqb-true, eqb-false, ltb-true, ltb-false}
use Rattle.cols_spec.specs.Sets.{keep}
use Rattle.cols_spec.specs.Places.{Place, At, Nowhere, first, find, found, used, becomes, sweep}
use Rattle.cols_spec.proofs.Places.{shift, first_shift}

pub At_inj : {i j : ℕ} → At i ≡ At j → i ≡ j
At_inj e = cc

pub At≢Nowhere : {i : ℕ} → Nowhere ≡ At i → ⊥
At≢Nowhere e = let f : ◌≡◌ {A = ℕ} 0 1 = cc in omega (arith, f)

-- ---- where an id stands

-- what stands at the place that is found
pub first_holds : (ids : List ℕ) (x i : ℕ) → first 0 x ids ≡ At i → (get_or ids i 0 ≡ x) × (i < length ids)
unfolding first
first_holds [] x i e = absurd (At≢Nowhere e)
first_holds (y ∷ ids) x i e = go (eqb x y) refl e (first_holds ids x)
  where
    Is : ℕ → Type 0
    Is n = (get_or (y ∷ ids) n 0 ≡ x) × (n < suc (length ids))

    later : (p : Place) → first 0 x ids ≡ p → shift p ≡ At i → ((j : ℕ) → first 0 x ids ≡ At j → (get_or ids j 0 ≡ x) × (j < length ids)) → Is i
    later (At j) q s rec = subst Is (At_inj s) ((rec j q).0, suc-le-suc (rec j q).1)
    later Nowhere q s rec = absurd (At≢Nowhere s)

    go : (b : Bool) → eqb x y ≡ b → (if b then At 0 else first 1 x ids) ≡ At i
        → ((j : ℕ) → first 0 x ids ≡ At j → (get_or ids j 0 ≡ x) × (j < length ids)) → Is i
    go true q s rec = subst Is (At_inj s) (sym (eqb-true x y q), zero-lt-suc (length ids))
    go false q s rec = later (first 0 x ids) refl (sym (first_shift x ids 0) ∙ s) rec

pub find_holds : (ids : List ℕ) (x i : ℕ) → find ids x ≡ At i → (get_or ids i 0 ≡ x) × (i < length ids) × (0 < x)
unfolding find
find_holds ids x i e = go (eqb x 0) refl e
  where
    go : (b : Bool) → eqb x 0 ≡ b → (if b then Nowhere else first 0 x ids) ≡ At i → (get_or ids i 0 ≡ x) × (i < length ids) × (0 < x)
    go true q s = absurd (At≢Nowhere s)
    go false q s = ((first_holds ids x i s).0, (first_holds ids x i s).1, omega (arith, eqb-false x 0 q))

-- an id that is not found stands nowhere
first_none : (ids : List ℕ) (x : ℕ) → first 0 x ids ≡ Nowhere → (i : ℕ) → i < length ids → get_or ids i 0 ≡ x → ⊥
unfolding first
first_none [] x e i l h = omega arith
first_none (y ∷ ids) x e zero l h = go (eqb x y) refl e
  where
    go : (b : Bool) → eqb x y ≡ b → (if b then At 0 else first 1 x ids) ≡ Nowhere → ⊥
    go true q s = At≢Nowhere (sym s)
    go false q s = eqb-false x y q (sym h)
first_none (y ∷ ids) x e (suc i) l h = go (eqb x y) e (λ s. first_none ids x s i (le_of_suc-le-suc l) h)
  where
    back : (p : Place) → shift p ≡ Nowhere → p ≡ Nowhere
    back (At j) s = absurd (At≢Nowhere (sym s))
    back Nowhere s = refl

    go : (b : Bool) → (if b then At 0 else first 1 x ids) ≡ Nowhere → (first 0 x ids ≡ Nowhere → ⊥) → ⊥
    go true s rec = At≢Nowhere (sym s)
    go false s rec = rec (back (first 0 x ids) (sym (first_shift x ids 0) ∙ s))

-- a place in use is one of the list's
pub in_list : (ids : List ℕ) (i : ℕ) → 0 < get_or ids i 0 → i < length ids
in_list [] i h = absurd (omega arith)
in_list (x ∷ ids) zero h = omega arith
in_list (x ∷ ids) (suc i) h = suc-le-suc (in_list ids i h)

pub find_none : (ids : List ℕ) (x : ℕ) → find ids x ≡ Nowhere → 0 < x → (i : ℕ) → get_or ids i 0 ≡ x → ⊥
unfolding find
find_none ids x e h i g = first_none ids x (rw (ne_eqb x 0 (λ q. omega arith)) at e) i (in_list ids i (rw g h)) g

-- no two places hold one id
abbrev pub Apart : List ℕ → Type 0
Apart ids = (i j : ℕ) → 0 < get_or ids i 0 → get_or ids i 0 ≡ get_or ids j 0 → i ≡ j

pub find_there : (ids : List ℕ) → Apart ids → (i : ℕ) → 0 < get_or ids i 0 → find ids (get_or ids i 0) ≡ At i
find_there ids apart i h = go (find ids (get_or ids i 0)) refl
  where
    go : (p : Place) → find ids (get_or ids i 0) ≡ p → find ids (get_or ids i 0) ≡ At i
    go (At j) e = e ∙ ap (λ (n : ℕ). At n) (sym (apart i j h (sym (find_holds ids (get_or ids i 0) j e).0)))
    go Nowhere e = absurd (find_none ids (get_or ids i 0) e h i refl)

pub find_is : (ids : List ℕ) → Apart ids → (x i : ℕ) → 0 < x → get_or ids i 0 ≡ x → find ids x ≡ At i
find_is ids apart x i h e = rw e at (find_there ids apart i (rw e h))

pub find_gone : (ids : List ℕ) (x : ℕ) → (0 < x → (i : ℕ) → get_or ids i 0 ≡ x → ⊥) → find ids x ≡ Nowhere
find_gone ids x f = go (find ids x) refl
  where
    go : (p : Place) → find ids x ≡ p → find ids x ≡ Nowhere
    go (At i) e = let r = find_holds ids x i e in absurd (f r.2 i r.0)
    go Nowhere e = e

-- an id whose place is not found stands nowhere
pub not_there : (ids : List ℕ) (x : ℕ) → found (find ids x) ≡ false → 0 < x → (j : ℕ) → get_or ids j 0 ≡ x → ⊥
unfolding found
not_there ids x f z = go (find ids x) refl f
  where
    go : (w : Place) → find ids x ≡ w → found w ≡ false → (j : ℕ) → get_or ids j 0 ≡ x → ⊥
    go (At i) e k = absurd (true≢false k)
    go Nowhere e k = find_none ids x e z

-- two users are the same where their places are
pub same_place : (ids : List ℕ) (u v i j : ℕ) → find ids u ≡ At i → find ids v ≡ At j → eqb i j ≡ eqb v u
same_place ids u v i j p q = go (eqb v u) refl
  where
    go : (b : Bool) → eqb v u ≡ b → eqb i j ≡ b
    go true e = eq-eqb i j (At_inj (sym p ∙ ap (find ids) (sym (eqb-true v u e)) ∙ q))
    go false e = ne_eqb i j (λ r. eqb-false v u e (sym (find_holds ids v j q).0 ∙ ap (λ (n : ℕ). get_or ids n 0) (sym r) ∙ (find_holds ids u i p).0))

-- ---- how many are in use

pub used_le : (new old : List ℕ) → length new ≡ length old → ((i : ℕ) → 0 < get_or new i 0 → 0 < get_or old i 0) → used new ≤ used old
unfolding used keep
used_le [] old l h = zero-le
used_le (x ∷ new) [] l h = absurd (suc-ne-zero (length new) l)
used_le (x ∷ new) (y ∷ old) l h = go (ltb 0 x) refl (ltb 0 y) refl (used_le new old (suc_inj l) (λ i. h (suc i)))
  where
    rest : List ℕ → List ℕ
    rest xs = keep (λ z. ltb 0 z) xs

    go : (a : Bool) → ltb 0 x ≡ a → (b : Bool) → ltb 0 y ≡ b → used new ≤ used old
        → length (if a then x ∷ rest new else rest new) ≤ length (if b then y ∷ rest old else rest old)
    go true p true q r = suc-le-suc r
    go true p false q r = absurd (let k : 0 < y = h 0 (ltb-true 0 x p) in omega (arith, ltb-false 0 y q))
    go false p true q r = omega arith
    go false p false q r = r

pub used_set : (ids : List ℕ) (j v : ℕ) → used (set ids j v) ≤ suc (used ids)
unfolding used keep
used_set [] j v = zero-le
used_set (x ∷ ids) zero v = go (ltb 0 v) (ltb 0 x)
  where
    rest : List ℕ
    rest = keep (λ z. ltb 0 z) ids

    go : (a b : Bool) → length (if a then v ∷ rest else rest) ≤ suc (length (if b then x ∷ rest else rest))
    go true true = omega arith
    go true false = omega arith
    go false true = omega arith
    go false false = omega arith
used_set (x ∷ ids) (suc j) v = go (ltb 0 x) (used_set ids j v)
  where
    rest : List ℕ → List ℕ
    rest xs = keep (λ z. ltb 0 z) xs

    go : (a : Bool) → used (set ids j v) ≤ suc (used ids)
        → length (if a then x ∷ rest (set ids j v) else rest (set ids j v)) ≤ suc (length (if a then x ∷ rest ids else rest ids))
    go true r = suc-le-suc r
    go false r = r

-- a table that is not full has a spare place
pub spare_there : (ids : List ℕ) → used ids < length ids → (j : ℕ) × (first 0 0 ids ≡ At j)
unfolding used keep first
spare_there [] h = absurd (omega arith)
spare_there (y ∷ ids) h = go (eqb 0 y) refl (ltb 0 y) refl h (spare_there ids)
  where
    rest : List ℕ
    rest = keep (λ z. ltb 0 z) ids

    go : (a : Bool) → eqb 0 y ≡ a → (b : Bool) → ltb 0 y ≡ b → length (if b then y ∷ rest else rest) < suc (length ids)
        → (used ids < length ids → (j : ℕ) × (first 0 0 ids ≡ At j)) → (j : ℕ) × ((if a then At 0 else first 1 0 ids) ≡ At j)
    go true p b q l rec = (0, refl)
    go false p true q l rec = let r = rec (le_of_suc-le-suc l) in (suc r.0, first_shift 0 ids 0 ∙ ap shift r.1)
    go false p false q l rec = absurd (eqb-false 0 y p (let k : y ≤ 0 = ltb-false 0 y q in omega arith))

-- ---- what a place holds after a change

module _ {A : Type 0} where
  pub at_set : (l : List A) (j i : ℕ) (v d : A) → j < length l → get_or (set l j v) i d ≡ (if eqb i j then v else get_or l i d)
  at_set l j i v d h = go (eqb i j) refl
    where
      go : (b : Bool) → eqb i j ≡ b → get_or (set l j v) i d ≡ (if b then v else get_or l i d)
      go true e = ap (λ (n : ℕ). get_or (set l j v) n d) (eqb-true i j e) ∙ get_or-set_same l j v d h
      go false e = get_or-set_other l j i v d (eqb-false i j e)

  -- in the list the default does not matter
  pub get_d_any : (l : List A) (i : ℕ) (a b : A) → i < length l → get_or l i a ≡ get_or l i b
  get_d_any [] i a b h = absurd (omega arith)
  get_d_any (x ∷ l) zero a b h = refl
  get_d_any (x ∷ l) (suc i) a b h = get_d_any l i a b (le_of_suc-le-suc h)

  module _ (blank : A) (fate : ℕ → ℕ → A → Option A) where
    pub swept_at : (k i : ℕ) (ids : List ℕ) (cells : List A) → length ids ≡ length cells
        → (get_or (map (λ r. r.0) (sweep blank fate k ids cells)) i 0 ≡ (becomes blank fate (k + i) (get_or ids i 0) (get_or cells i blank)).0)
        × (get_or (map (λ r. r.1) (sweep blank fate k ids cells)) i blank ≡ (becomes blank fate (k + i) (get_or ids i 0) (get_or cells i blank)).1)
    unfolding sweep becomes
    swept_at k i [] [] l = (refl, refl)
    swept_at k i [] (c ∷ cells) l = absurd (suc-ne-zero (length cells) (sym l))
    swept_at k i (x ∷ ids) [] l = absurd (suc-ne-zero (length ids) l)
    swept_at k zero (x ∷ ids) (c ∷ cells) l = rw (add-zero k) (refl, refl)
    swept_at k (suc i) (x ∷ ids) (c ∷ cells) l = rw (add-suc k i, ← (suc-add k i)) (swept_at (suc k) i ids cells (suc_inj l))

    pub sweep_sizes : (k : ℕ) (ids : List ℕ) (cells : List A) → length ids ≡ length cells
        → (length (map (λ r. r.0) (sweep blank fate k ids cells)) ≡ length ids) × (length (map (λ r. r.1) (sweep blank fate k ids cells)) ≡ length ids)
    unfolding sweep
    sweep_sizes k [] [] l = (refl, refl)
    sweep_sizes k [] (c ∷ cells) l = absurd (suc-ne-zero (length cells) (sym l))
    sweep_sizes k (x ∷ ids) [] l = absurd (suc-ne-zero (length ids) l)
    sweep_sizes k (x ∷ ids) (c ∷ cells) l = let r = sweep_sizes (suc k) ids cells (suc_inj l) in (ap suc r.0, ap suc r.1)
