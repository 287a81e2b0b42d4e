-- The loop over listed ids: those of the first i who leave are listed, and the ids behind stand as they stood. Assumes nothing.
use mathlib.Core.Path.{◌≡◌, refl, ◌∙◌}
use mathlib.Core.List.{List, [], ◌∷◌, ◌++◌}
use Prim.Native.Nat.{ℕ, ◌+◌, ◌≤◌, ◌<◌, zero-le}
use native.Mathlib.Numerals.{add-one}
use native.Mathlib.Omega.{arith}
use lib.ListN.{length, get_or, take}
use lib.Seq.{take-suc}
use Rattle.cols_spec.specs.Sets.{keep, firsts, once}
use Rattle.cols_spec.specs.Places.{found}
use Rattle.domain_tables.proofs.OneMore.{kept_last}
use Rattle.domain.specs.Tables.{Users, attached}
use Rattle.domain.specs.Leaving.{those_on}
use Rattle.serve_leave.specs.declared.Leavers.{Leavers}
use Rattle.serve_leave.specs.Lists.{Leaves, with_leaver, Adds}
use Rattle.serve_leave.proofs.LeaverLaws.{leaves_nobody}

pub record Picking (us : Users) (p : ℕ) (ids list : List ℕ) (t : Leavers) (i : ℕ) : Type 0 where
  pub before : t.count ≤ i
  pub behind : (j : ℕ) → i ≤ j → get_or list j 0 ≡ get_or ids j 0
  pub leaves : Leaves us (those_on us p (once (take i ids))) list t

pub pick_start : (us : Users) (p : ℕ) (ids : List ℕ) → Picking us p ids ids (record { count = 0; seats = 0 }) 0
unfolding those_on once firsts keep
pick_start us p ids = record { before = zero-le; behind = λ j h. refl; leaves = leaves_nobody us ids }

on_last : (us : Users) (p : ℕ) (xs : List ℕ) (x : ℕ) → those_on us p (once (xs ++ x ∷ [])) ≡ with_leaver us p (those_on us p (once xs)) x
unfolding those_on with_leaver
on_last us p xs x = kept_last (λ u. found (attached us p u)) xs x

pub pick_turn : {us : Users} {p : ℕ} {ids list : List ℕ} {t : Leavers} {i u : ℕ} {after : List ℕ} {r : Leavers}
    → Picking us p ids list t i → i < length ids → u ≡ get_or list i 0 → Adds us p u list t after r → Picking us p ids after r (i + 1)
pick_turn {us} {p} {ids} {list} {t} {i} {u} {after} {r} s h e g =
    record {
      before = omega (arith, g.few, s.before);
      behind = λ j k. g.behind j (omega (arith, s.before)) ∙ s.behind j (omega arith);
      leaves = rw (add-one i, take-suc ids i 0 h, ← s.behind i (omega arith), ← e, on_last us p (take i ids) u) (g.grows (those_on us p (once (take i ids))) s.leaves);
    }
