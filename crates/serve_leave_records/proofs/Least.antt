-- The least id above another, by the marks of the ids.
use Rattle.std.specs.Prelude.{Option, Some, None, if◌then◌else◌}
use mathlib.Core.Path.{◌≡◌, refl, sym, ap, ◌∙◌}
use mathlib.Core.Bool.{Bool, true, false, ◌||◌, true≢false, false≢true}
use mathlib.Core.List.{List, [], ◌∷◌}
use Prim.Native.Nat.{ℕ, zero, suc, ◌+◌, ◌-◌, ◌≤◌, ◌<◌}
use native.Mathlib.Omega.{arith}
use lib.Dec.{eqb, ltb}
use borrow.Author.Tests.{eqb-true, eqb-false, ne_eqb, ltb-true, ltb-false, lt-ltb}
use Rattle.cols_spec.specs.Sets.{any, member, has, ids_above, NextIn}
use Rattle.cols_spec.specs.Places.{next}
use Rattle.cols_spec.proofs.Bools.{or_parts, or_elim}
use Rattle.cols_spec.proofs.Gaps.{has_marked}
use Rattle.cols_spec.proofs.Kept.{next_least, next_is_there}
use Rattle.serve_leave_records.specs.Endings.{other, mark_number, NextMark, id_or_none}

-- ---- the first number of two masks

module _ {low high from q : ℕ} (xs : List ℕ) (a : low ≡ ids_above 1000 xs) (b : high ≡ ids_above 1064 xs) (p : NextIn low from q) where
  low_has : (k : ℕ) → k < 64 → has low k ≡ member (1001 + k) xs
  low_has k l = ap (λ (m : ℕ). has m k) a ∙ has_marked 1000 xs k l

  high_has : (k : ℕ) → k < 64 → has high k ≡ member (1001 + (64 + k)) xs
  high_has k l = ap (λ (m : ℕ). has m k) b ∙ has_marked 1064 xs k l ∙ ap (λ (x : ℕ). member x xs) (omega arith)

  pub first_low : q < 64 → NextMark xs from (Some q)
  first_low l = record {
    passed = λ k h u. sym (low_has k (omega arith)) ∙ p.passed k h u;
    here = λ r e. let is : q ≡ r = cc in
        rw (← is) ((p.here l).0, sym (low_has q l) ∙ (p.here l).1);
  }

  -- none in the low mask: in the high one, from where the search is there
  module _ {start r : ℕ} (h : 64 ≤ q) (e : start ≡ from - 64) (s : NextIn high start r) where
    high_passed : (k : ℕ) → from ≤ k → k < 64 + r → member (1001 + k) xs ≡ false
    high_passed k u v = go (ltb k 64) refl
      where
        go : (t : Bool) → ltb k 64 ≡ t → member (1001 + k) xs ≡ false
        go true g = let l = ltb-true k 64 g in sym (low_has k l) ∙ p.passed k u (omega arith)
        go false g =
            let l = ltb-false k 64 g in
            let z : 64 + (k - 64) ≡ k = omega arith in
            ap (λ (x : ℕ). member (1001 + x) xs) (sym z) ∙ sym (high_has (k - 64) (omega (arith, s.within))) ∙ s.passed (k - 64) (omega arith) (omega arith)

    pub first_high : r < 64 → NextMark xs from (Some (64 + r))
    first_high l = record {
      passed = high_passed;
      here = λ n f. let is : 64 + r ≡ n = cc in
          rw (← is) (omega (arith, (s.here l).0), sym (high_has r l) ∙ (s.here l).1);
    }

    pub first_nowhere : 64 ≤ r → NextMark xs from None
    first_nowhere l = record {
      passed = λ k u v. high_passed k u (omega arith);
      here = λ n f. cc;
    }

-- ---- the least id above another

any_none_of : (f : ℕ → Bool) (xs : List ℕ) → any f xs ≡ false → (z : ℕ) → member z xs ≡ true → f z ≡ false
unfolding any member
any_none_of f [] e z m = absurd (false≢true m)
any_none_of f (x ∷ xs) e z m =
    let r = or_parts (f x) (any f xs) e in
    or_elim (eqb z x) (member z xs) m (λ q. ap f (eqb-true z x q) ∙ r.0) (any_none_of f xs r.1 z)

module _ (low : ℕ) (xs : List ℕ) where
  next_is : (r : ℕ) → low < r → member r xs ≡ true → ((z : ℕ) → low < z → member z xs ≡ true → r ≤ z) → r ≡ next low 0 xs
  next_is r l m least =
      let b = next_least low xs r l m in
      omega (arith, b, least (next low 0 xs) b.0 (next_is_there low xs (λ z. omega (arith, b))).1)

  next_nothing : ((z : ℕ) → low < z → member z xs ≡ true → ⊥) → 0 ≡ next low 0 xs
  next_nothing none = go (next low 0 xs) refl
    where
      go : (y : ℕ) → next low 0 xs ≡ y → 0 ≡ next low 0 xs
      go zero e = sym e
      go (suc y) e =
          let r = next_is_there low xs (λ q. omega (arith, e, q)) in
          absurd (none (next low 0 xs) r.0 r.1)

  -- where no id is any other than those from 1001 to 1128
  module _ (m : Option ℕ) (only : any other xs ≡ false) (p : NextMark xs (low - 1000) m) where
    inside : (z : ℕ) → low < z → member z xs ≡ true → (1000 < z) × (z ≤ 1128)
    inside z l m =
        let e : (ltb z 1001 || ltb 1128 z) ≡ false = rw (lt-ltb 0 z (omega arith)) at (any_none_of other xs only z m) in
        let r = or_parts (ltb z 1001) (ltb 1128 z) e in
        (omega (arith, ltb-false z 1001 r.0), ltb-false 1128 z r.1)

    -- it is none of those passed
    least_there : (z : ℕ) → low < z → member z xs ≡ true → 1001 + mark_number m ≤ z
    least_there z l t = go (ltb (z - 1001) (mark_number m)) refl
      where
        i : (1000 < z) × (z ≤ 1128)
        i = inside z l t

        go : (b : Bool) → ltb (z - 1001) (mark_number m) ≡ b → 1001 + mark_number m ≤ z
        go true e =
            let g : 1001 + (z - 1001) ≡ z = omega (arith, i) in
            absurd (true≢false (sym t ∙ ap (λ (x : ℕ). member x xs) (sym g) ∙ p.passed (z - 1001) (omega (arith, i)) (ltb-true (z - 1001) (mark_number m) e)))
        go false e = omega (arith, i, ltb-false (z - 1001) (mark_number m) e)

    pub least_marked : (q : ℕ) → m ≡ Some q → 1001 + q ≡ next low 0 xs
    least_marked q e = next_is (1001 + q) (omega (arith, (p.here q e).0)) (p.here q e).1 (rw (ap mark_number e) at least_there)

    pub least_none : m ≡ None → 0 ≡ next low 0 xs
    least_none e = next_nothing (λ z l t. omega (arith, inside z l t, least_there z l t, ap mark_number e))

-- ---- an id, or none

pub answers_some : (x : ℕ) → (x ≡ 0 → ⊥) → ◌≡◌ {A = Option ℕ} (Some x) (id_or_none x)
answers_some x n = rw (ne_eqb x 0 n) refl

pub is_none : (x : ℕ) → ◌≡◌ {A = Option ℕ} None (id_or_none x) → x ≡ 0
is_none x = go (eqb x 0) refl
  where
    go : (b : Bool) → eqb x 0 ≡ b → ◌≡◌ {A = Option ℕ} None (if b then None else Some x) → x ≡ 0
    go true e q = eqb-true x 0 e
    go false e q = cc

pub is_some : (c x : ℕ) → ◌≡◌ {A = Option ℕ} (Some c) (id_or_none x) → (c ≡ x) × (c ≡ 0 → ⊥)
is_some c x = go (eqb x 0) refl
  where
    go : (b : Bool) → eqb x 0 ≡ b → ◌≡◌ {A = Option ℕ} (Some c) (if b then None else Some x) → (c ≡ x) × (c ≡ 0 → ⊥)
    go true e q = cc
    go false e q = let same : c ≡ x = cc in (same, λ z. eqb-false x 0 e (sym same ∙ z))
