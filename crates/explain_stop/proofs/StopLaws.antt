-- The parts of a stop's line, by the cases that the code tells apart. Assumes nothing.
use Prim.Native.Nat.{ℕ, ◌-◌, ◌/◌}
use mathlib.Core.Path.{◌≡◌, refl, sym, ap}
use mathlib.Core.List.{List, [], ◌∷◌}
use borrow.Author.Tests.{eq-eqb, ne_eqb}
use lib.ListN.{length, get_or}
use Rattle.codec_stop.specs.declared.Part.{Part}
use Rattle.explain_stop.specs.StopLine.{items_place, part_text, number_in}

-- what follows the fields, by its kind
pub items_none : (kind : ℕ) → kind ≡ 0 → 3 ≡ items_place kind
unfolding items_place
items_none kind e = rw (eq-eqb kind 0 e) refl

pub items_some : (kind : ℕ) → (kind ≡ 0 → ⊥) → kind - 1 ≡ items_place kind
unfolding items_place
items_some kind n = rw (ne_eqb kind 0 n) refl

-- the number of no octets, and of some
pub number_none : (os : List ℕ) → length os ≡ 0 → 63 ≡ number_in os
unfolding number_in
number_none os e = rw (eq-eqb (length os) 0 e) refl

pub number_some : (os : List ℕ) (o : ℕ) → (length os ≡ 0 → ⊥) → o ≡ get_or os 0 0 → o / 4 ≡ number_in os
unfolding number_in
number_some os o n e = rw (ne_eqb (length os) 0 n, ← e) refl

-- the text of a part that is told apart
pub part_is : (number : ℕ) (p q : Part) → p ≡ q → part_text number q ∷ [] ≡ part_text number p ∷ []
part_is number p q e = ap (λ x. part_text number x ∷ []) (sym e)
