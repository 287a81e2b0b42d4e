-- Of the places from `from` on k are looked at, and `sum` has 256 and its place for each of them that holds x: below 256 it is 0, and none does; below 512
-- one does, and its place is what is above 256.
use Rattle.std.specs.Prelude.{if◌then◌else◌}
use mathlib.Core.Path.{◌≡◌, refl, ◌∙◌}
use mathlib.Core.Bool.{Bool, true, false}
use mathlib.Core.List.{List}
use Prim.Native.Nat.{ℕ, suc, ◌+◌, ◌-◌, ◌*◌, ◌≤◌, ◌<◌}
use native.Mathlib.Omega.{arith}
use lib.Dec.{eqb, ltb}
use lib.ListN.{length, get_or}
use borrow.Author.Tests.{eqb-false, ltb-true, ltb-false}
use Rattle.cols_spec.proofs.Places.{first_miss}
use Rattle.cols_find.proofs.Looked.{Past, past}

pub record Summed (ids : List ℕ) (from x k sum : ℕ) : Type 0 where
  pub within : sum ≤ 320 * k
  pub none : sum < 256 → (sum ≡ 0) × Past ids from x (from + k)
  pub one : 256 ≤ sum → sum < 512 → (sum < 256 + k) × Past ids from x (from + (sum - 256))

module _ {ids : List ℕ} {from x : ℕ} where
  pub summed_none : Summed ids from x 0 0
  summed_none = record {
    within = omega arith;
    none = λ l. (refl, past ids from x from (from + 0) (omega arith) refl);
    one = λ l. absurd (omega arith);
  }

  -- one place more: `here` is 256 and k where it holds x, else 0
  pub summed_next : {k sum here : ℕ} → Summed ids from x k sum → k < 64 → from + 64 ≤ length ids
      → here ≡ (if eqb (get_or ids (from + k) 0) x then 256 + k else 0) → Summed ids from x (k + 1) (sum + here)
  summed_next {k} {sum} {here} s h room e = go (eqb (get_or ids (from + k) 0) x) refl (ltb sum 256) refl e
    where
      go : (b : Bool) → eqb (get_or ids (from + k) 0) x ≡ b → (z : Bool) → ltb sum 256 ≡ z → here ≡ (if b then 256 + k else 0) → Summed ids from x (k + 1) (sum + here)
      go true q true z e =
          let p = s.none (ltb-true sum 256 z) in
          record {
            within = omega (arith, s.within);
            none = λ l. absurd (omega arith);
            one = λ l m. (omega arith, past ids from x (from + k) (from + (sum + here - 256)) (omega arith) p.1);
          }
      go true q false z e =
          let o : 256 ≤ sum = omega (arith, ltb-false sum 256 z) in
          record { within = omega (arith, s.within); none = λ l. absurd (omega arith); one = λ l m. absurd (omega arith) }
      go false q true z e =
          let p = s.none (ltb-true sum 256 z) in
          let miss = first_miss ids x (from + k) (omega arith) (eqb-false (get_or ids (from + k) 0) x q) in
          record {
            within = omega (arith, s.within);
            none = λ l. (omega arith, past ids from x (suc (from + k)) (from + (k + 1)) (omega arith) (p.1 ∙ miss));
            one = λ l m. absurd (omega arith);
          }
      go false q false z e =
          let o : 256 ≤ sum = omega (arith, ltb-false sum 256 z) in
          record {
            within = omega (arith, s.within);
            none = λ l. absurd (omega arith);
            one = λ l m. let p = s.one o (omega arith) in (omega arith, past ids from x (from + (sum - 256)) (from + (sum + here - 256)) (omega arith) p.1);
          }
