-- Two sweeps of a table are one sweep, where at each place what becomes of what stays is what the one sweep makes of it. Assumes nothing.
use Rattle.std.specs.Prelude.{if◌then◌else◌}
use mathlib.Core.Path.{◌≡◌, refl, sym, ap, ap₂, ◌∙◌}
use mathlib.Core.Bool.{Bool, true, false}
use mathlib.Core.List.{List, map}
use mathlib.Core.Option.{Option, none, some}
use Prim.Native.Nat.{ℕ, ◌<◌}
use native.Mathlib.Nat.{zero-add}
use native.Mathlib.Omega.{arith}
use lib.Dec.{eqb}
use lib.ListN.{length, get_or}
use lib.Seq.{ext_get_or}
use borrow.Author.Tests.{eqb-false}
use Rattle.cols_spec.specs.Places.{becomes, turns_to, sweep}
use Rattle.cols_spec.proofs.Rows.{swept_at, sweep_sizes}

module _ {A : Type 0} where
  -- what becomes of what stays
  abbrev pub and_then : Option A → (A → Option A) → Option A
  and_then none g = none
  and_then (some c) g = g c

  module _ (blank : A) (ids : List ℕ) (cells : List A) (sized : length ids ≡ length cells) where
    abbrev pub ids_by : (ℕ → ℕ → A → Option A) → List ℕ
    ids_by f = map (λ r. r.0) (sweep blank f 0 ids cells)

    abbrev pub cells_by : (ℕ → ℕ → A → Option A) → List A
    cells_by f = map (λ r. r.1) (sweep blank f 0 ids cells)

    here : (f : ℕ → ℕ → A → Option A) (i : ℕ)
        → (get_or (ids_by f) i 0 ≡ (becomes blank f i (get_or ids i 0) (get_or cells i blank)).0) × (get_or (cells_by f) i blank ≡ (becomes blank f i (get_or ids i 0) (get_or cells i blank)).1)
    here f i = rw (zero-add i) at (swept_at blank f 0 i ids cells sized)

    module _ (f g h : ℕ → ℕ → A → Option A)
        (law : (i : ℕ) → 0 < get_or ids i 0 → and_then (f i (get_or ids i 0) (get_or cells i blank)) (g i (get_or ids i 0)) ≡ h i (get_or ids i 0) (get_or cells i blank)) where
      sized' : length (ids_by f) ≡ length (cells_by f)
      sized' = (sweep_sizes blank f 0 ids cells sized).0 ∙ sym (sweep_sizes blank f 0 ids cells sized).1

      one : (i x : ℕ) (c : A) → (0 < x → and_then (f i x c) (g i x) ≡ h i x c) → becomes blank g i (becomes blank f i x c).0 (becomes blank f i x c).1 ≡ becomes blank h i x c
      unfolding becomes turns_to
      one i x c q = go (eqb x 0) refl (f i x c) refl
        where
          go : (b : Bool) → eqb x 0 ≡ b → (o : Option A) → f i x c ≡ o
              → becomes blank g i (if b then (x, c) else turns_to blank x o).0 (if b then (x, c) else turns_to blank x o).1 ≡ (if b then (x, c) else turns_to blank x (h i x c))
          go true e o k = rw e
          go false e none k = ap (turns_to blank x) (sym (ap (λ (z : Option A). and_then z (g i x)) k) ∙ q (omega (arith, eqb-false x 0 e)))
          go false e (some y) k = rw e (ap (turns_to blank x) (sym (ap (λ (z : Option A). and_then z (g i x)) k) ∙ q (omega (arith, eqb-false x 0 e))))

      -- the second sweep, place by place
      later : (i : ℕ) → (get_or (map (λ r. r.0) (sweep blank g 0 (ids_by f) (cells_by f))) i 0 ≡ (becomes blank g i (get_or (ids_by f) i 0) (get_or (cells_by f) i blank)).0)
          × (get_or (map (λ r. r.1) (sweep blank g 0 (ids_by f) (cells_by f))) i blank ≡ (becomes blank g i (get_or (ids_by f) i 0) (get_or (cells_by f) i blank)).1)
      later i = rw (zero-add i) at (swept_at blank g 0 i (ids_by f) (cells_by f) sized')

      both_at : (i : ℕ) → becomes blank g i (get_or (ids_by f) i 0) (get_or (cells_by f) i blank) ≡ becomes blank h i (get_or ids i 0) (get_or cells i blank)
      both_at i = ap₂ (becomes blank g i) (here f i).0 (here f i).1 ∙ one i (get_or ids i 0) (get_or cells i blank) (law i)

      pub twice_ids : map (λ r. r.0) (sweep blank g 0 (ids_by f) (cells_by f)) ≡ ids_by h
      twice_ids = ext_get_or 0 _ _
          ((sweep_sizes blank g 0 (ids_by f) (cells_by f) sized').0 ∙ (sweep_sizes blank f 0 ids cells sized).0 ∙ sym (sweep_sizes blank h 0 ids cells sized).0)
          (λ i l. (later i).0 ∙ ap (λ (z : ℕ × A). z.0) (both_at i) ∙ sym (here h i).0)

      pub twice_cells : map (λ r. r.1) (sweep blank g 0 (ids_by f) (cells_by f)) ≡ cells_by h
      twice_cells = ext_get_or blank _ _
          ((sweep_sizes blank g 0 (ids_by f) (cells_by f) sized').1 ∙ (sweep_sizes blank f 0 ids cells sized).0 ∙ sym (sweep_sizes blank h 0 ids cells sized).1)
          (λ i l. (later i).1 ∙ ap (λ (z : ℕ × A). z.1) (both_at i) ∙ sym (here h i).1)
