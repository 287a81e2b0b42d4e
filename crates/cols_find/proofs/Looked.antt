-- Of the n places from `from` on k are looked at. `most` is 0 where none of them holds x, else so many of the n were left at the first that does.
use Rattle.std.specs.Prelude.{if◌then◌else◌}
use mathlib.Core.Path.{◌≡◌, refl, ◌∙◌}
use mathlib.Core.Bool.{Bool, true, false}
use mathlib.Core.List.{List}
use Prim.Native.Nat.{ℕ, suc, ◌+◌, ◌-◌, ◌≤◌, ◌<◌}
use native.Mathlib.Omega.{arith}
use lib.Dec.{eqb}
use lib.ListN.{length, get_or, drop}
use borrow.Author.Tests.{eqb-true, eqb-false}
use Rattle.cols_spec.specs.Places.{first}
use Rattle.cols_spec.proofs.Places.{first_miss}

-- x does not stand before i
abbrev pub Past : (ids : List ℕ) (from x i : ℕ) → Type 0
Past ids from x i = first from x (drop from ids) ≡ first i x (drop i ids)

pub past : (ids : List ℕ) (from x i j : ℕ) → i ≡ j → Past ids from x i → Past ids from x j
past ids from x i j e p = rw e at p

pub record Looked (ids : List ℕ) (from x n k most : ℕ) : Type 0 where
  pub within : (k ≤ n) × (most ≤ n)
  pub none : most ≡ 0 → Past ids from x (from + k)
  pub some : 0 < most → (n < most + k) × Past ids from x (from + (n - most))

module _ {ids : List ℕ} {from x n : ℕ} where
  pub looked_at_none : Looked ids from x n 0 0
  looked_at_none = record {
    within = (omega arith, omega arith);
    none = λ z. past ids from x from (from + 0) (omega arith) refl;
    some = λ l. absurd (omega arith);
  }

  -- one place more: where it holds x, `left` are left there, else `left` is 0; r is the greater of `left` and `most`
  pub looked_at_next : {k most left r : ℕ} → Looked ids from x n k most → k < n → from + n ≤ length ids
      → (left ≡ (if eqb (get_or ids (from + k) 0) x then n - k else 0)) × (left ≤ n - k) → (left < most → r ≡ most) × (most ≤ left → r ≡ left)
      → Looked ids from x n (k + 1) r
  looked_at_next {k} {most} {left} {r} s h room (e, few) greater = go (eqb (get_or ids (from + k) 0) x) refl (eqb most 0) refl e
    where
      go : (b : Bool) → eqb (get_or ids (from + k) 0) x ≡ b → (z : Bool) → eqb most 0 ≡ z → left ≡ (if b then n - k else 0) → Looked ids from x n (k + 1) r
      go true q true z e =
          let o = eqb-true most 0 z in
          let a = greater.1 (omega arith) in
          record {
            within = (omega arith, omega arith);
            none = λ l. absurd (omega arith);
            some = λ l. (omega arith, past ids from x (from + k) (from + (n - r)) (omega arith) (s.none o));
          }
      go false q true z e =
          let o = eqb-true most 0 z in
          let a = greater.1 (omega arith) in
          let miss = first_miss ids x (from + k) (omega arith) (eqb-false (get_or ids (from + k) 0) x q) in
          record {
            within = (omega arith, omega arith);
            none = λ l. past ids from x (suc (from + k)) (from + (k + 1)) (omega arith) (s.none o ∙ miss);
            some = λ l. absurd (omega arith);
          }
      go b q false z e =
          let p = s.some (omega (arith, eqb-false most 0 z)) in
          let a = greater.0 (omega arith) in
          record {
            within = (omega arith, omega arith);
            none = λ l. absurd (omega arith);
            some = λ l. (omega arith, past ids from x (from + (n - most)) (from + (n - r)) (omega arith) p.1);
          }

  -- all are looked at
  pub looked_at_all : {k most : ℕ} → Looked ids from x n k most → n ≤ k → Past ids from x (from + (n - most))
  looked_at_all {k} {most} s h = go (eqb most 0) refl
    where
      go : (z : Bool) → eqb most 0 ≡ z → Past ids from x (from + (n - most))
      go true z = let o = eqb-true most 0 z in past ids from x (from + k) (from + (n - most)) (omega arith) (s.none o)
      go false z = (s.some (omega (arith, eqb-false most 0 z))).1
