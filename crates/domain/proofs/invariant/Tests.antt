-- The tests of a table, and the same place by place. Assumes nothing.
use mathlib.Core.Path.{◌≡◌, refl, sym, ap, ◌∙◌}
use mathlib.Core.Bool.{Bool, true, false, not, ◌||◌, false≢true}
use mathlib.Core.List.{List, [], ◌∷◌}
use Prim.Native.Nat.{ℕ, zero, suc, ◌≤◌, ◌<◌, suc-le-suc}
use native.Mathlib.Omega.{arith}
use native.Mathlib.Nat.{suc_inj, suc-ne-zero, le_of_suc-le-suc, zero-lt-suc}
use lib.Dec.{eqb, ltb}
use lib.ListN.{length, get_or, get_or-eq_default}
use borrow.Author.Tests.{ne_eqb, eqb-false, ltb-true, ltb-false, le-ltb}
use Rattle.cols_spec.specs.Sets.{member}
use Rattle.cols_spec.specs.Places.{distinct, every, used}
use Rattle.cols_spec.proofs.Bools.{and_parts, and_both}
use Rattle.cols_spec.proofs.Places.{distinct_head, distinct_tail}
use Rattle.cols_spec.proofs.Rows.{Apart, in_list}
use Rattle.cols_spec.proofs.Table.{Table}
use Rattle.cols_spec.proofs.Members.{member_at, member_where}

-- ---- no id twice

-- the test passes: an id in use stands at one place
pub distinct_apart : (ids : List ℕ) → distinct ids ≡ true → Apart ids
unfolding distinct
distinct_apart [] h i j l e = absurd (omega arith)
distinct_apart (x ∷ ids) h zero zero l e = refl
distinct_apart (x ∷ ids) h zero (suc j) l e = absurd (false≢true (sym (distinct_head x ids h (λ z. omega (arith, l, z))) ∙ ap (λ (y : ℕ). member y ids) e ∙ member_at ids j (in_list ids j (rw e at l))))
distinct_apart (x ∷ ids) h (suc i) zero l e =
    absurd (false≢true (sym (distinct_head x ids h (λ z. omega (arith, l, e, z))) ∙ ap (λ (y : ℕ). member y ids) (sym e) ∙ member_at ids i (in_list ids i l)))
distinct_apart (x ∷ ids) h (suc i) (suc j) l e = ap suc (distinct_apart ids (distinct_tail x ids h) i j l e)

-- and the other way
pub apart_distinct : (ids : List ℕ) → Apart ids → distinct ids ≡ true
unfolding distinct
apart_distinct [] a = refl
apart_distinct (x ∷ ids) a = and_both (go (eqb x 0) refl (member x ids) refl) (apart_distinct ids (λ i j h e. suc_inj (a (suc i) (suc j) h e)))
  where
    go : (b : Bool) → eqb x 0 ≡ b → (c : Bool) → member x ids ≡ c → (b || not c) ≡ true
    go true e c f = refl
    go false e true f =
        let r = member_where ids x f in
        let z : x ≡ 0 → ⊥ = eqb-false x 0 e in
        absurd (suc-ne-zero r.0 (sym (a 0 (suc r.0) (omega arith) (sym r.1))))
    go false e false f = refl

-- ---- every place

module _ {A : Type 0} (blank : A) (g : ℕ → A → Bool) where
  -- a test of every place, read at one
  pub every_at : (k : ℕ) (ids : List ℕ) (cells : List A) → length ids ≡ length cells → every (λ i x c. g x c) k ids cells ≡ true
      → (i : ℕ) → i < length ids → g (get_or ids i 0) (get_or cells i blank) ≡ true
  unfolding every
  every_at k [] cells l e i h = absurd (omega arith)
  every_at k (x ∷ ids) [] l e i h = absurd (suc-ne-zero (length ids) l)
  every_at k (x ∷ ids) (c ∷ cells) l e zero h = (and_parts (g x c) _ e).0
  every_at k (x ∷ ids) (c ∷ cells) l e (suc i) h = every_at (suc k) ids cells (suc_inj l) (and_parts (g x c) _ e).1 i (le_of_suc-le-suc h)

  -- and the other way
  pub at_every : (k : ℕ) (ids : List ℕ) (cells : List A) → ((i : ℕ) → i < length ids → i < length cells → g (get_or ids i 0) (get_or cells i blank) ≡ true)
      → every (λ i x c. g x c) k ids cells ≡ true
  unfolding every
  at_every k [] cells f = refl
  at_every k (x ∷ ids) [] f = refl
  at_every k (x ∷ ids) (c ∷ cells) f = and_both (f 0 (zero-lt-suc _) (zero-lt-suc _)) (at_every (suc k) ids cells (λ i h m. f (suc i) (suc-le-suc h) (suc-le-suc m)))

-- ---- a table in order is one that passes the tests: of a place in use, and of a free place

module _ {A : Type 0} {blank : A} {n lim : ℕ} {P : ℕ → ℕ → A → Type 0} {ids : List ℕ} {cells : List A} where
  -- the tests g of a place in use and b of a free one pass: the table is in order
  pub table_of : (g : (ℕ → A → Bool)) (b : (A → Bool)) → length ids ≡ n → length cells ≡ n → distinct ids ≡ true → used ids ≤ lim
      → every (λ i x c. eqb x 0 || g x c) 0 ids cells ≡ true → every (λ i x c. ltb 0 x || b c) 0 ids cells ≡ true
      → ((i x : ℕ) (c : A) → 0 < x → g x c ≡ true → P i x c) → ((c : A) → b c ≡ true → c ≡ blank)
      → Table n lim blank P ids cells
  table_of g b s r dis count rows free f h = record {
    ids_size = s;
    cells_size = r;
    apart = distinct_apart ids dis;
    counted = count;
    free = λ i e. void i e (ltb i (length ids)) refl;
    rows = λ i l. f i _ _ l (rw (ne_eqb (get_or ids i 0) 0 (λ z. omega arith)) at (every_at blank (λ x c. eqb x 0 || g x c) 0 ids cells (s ∙ sym r) rows i (in_list ids i l)));
  }
    where
      void : (i : ℕ) → get_or ids i 0 ≡ 0 → (t : Bool) → ltb i (length ids) ≡ t → get_or cells i blank ≡ blank
      void i e true l = h _ (rw (le-ltb 0 (get_or ids i 0) (omega arith)) at (every_at blank (λ x c. ltb 0 x || b c) 0 ids cells (s ∙ sym r) free i (ltb-true i (length ids) l)))
      void i e false l = get_or-eq_default cells blank (let k : length ids ≤ i = ltb-false i (length ids) l in omega arith)

  -- a table in order passes the test of places in use
  pub rows_of : Table n lim blank P ids cells → (g : (ℕ → A → Bool)) → ((i x : ℕ) (c : A) → 0 < x → P i x c → g x c ≡ true) → every (λ i x c. eqb x 0 || g x c) 0 ids cells ≡ true
  rows_of t g f = at_every blank (λ x c. eqb x 0 || g x c) 0 ids cells (λ i h m. go i (eqb (get_or ids i 0) 0) refl)
    where
      go : (i : ℕ) (c : Bool) → eqb (get_or ids i 0) 0 ≡ c → (c || g (get_or ids i 0) (get_or cells i blank)) ≡ true
      go i true e = refl
      go i false e = let z : get_or ids i 0 ≡ 0 → ⊥ = eqb-false (get_or ids i 0) 0 e in let l : 0 < get_or ids i 0 = omega arith in f i _ _ l (t.rows i l)

  -- and that of free places
  pub free_of : Table n lim blank P ids cells → (b : (A → Bool)) → b blank ≡ true → every (λ i x c. ltb 0 x || b c) 0 ids cells ≡ true
  free_of t b h = at_every blank (λ x c. ltb 0 x || b c) 0 ids cells (λ i l m. go i (ltb 0 (get_or ids i 0)) refl)
    where
      go : (i : ℕ) (c : Bool) → ltb 0 (get_or ids i 0) ≡ c → (c || b (get_or cells i blank)) ≡ true
      go i true e = refl
      go i false e = let z : get_or ids i 0 ≤ 0 = ltb-false 0 (get_or ids i 0) e in rw (t.free i (omega arith)) h
