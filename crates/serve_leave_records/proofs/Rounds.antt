-- Records for each id of a column, ascending: what is still to come, and how many octets they take.
use mathlib.Core.Path.{◌≡◌, refl, sym, ap, ◌∙◌}
use mathlib.Core.List.{List, [], ◌∷◌, ◌++◌}
use Prim.Native.Nat.{ℕ, zero, suc, ◌*◌, ◌≤◌, zero-le}
use native.Mathlib.Nat.{suc-mul}
use native.Mathlib.Omega.{arith}
use lib.ListN.{length, length-append}
use Rattle.cols_spec.specs.Sets.{each}
use Rattle.cols_spec.specs.Places.{next, rising, in_order}
use Rattle.cols_spec.proofs.Turns.{rising_turn, rising_end}
use Rattle.out_records.specs.Records.{Sent, records}
use Rattle.out_records.proofs.Telling.{records_append, records_none}

module _ (f : ℕ → List Sent) where
  -- what the ids above `low` are still to bring
  unfoldable pub coming : (left low : ℕ) (ids : List ℕ) → List ℕ
  coming left low ids = records (each f (rising left low ids))

  pub coming_all : (ids : List ℕ) → coming (length ids) 0 ids ≡ records (each f (in_order ids))
  unfolding coming in_order
  coming_all ids = refl

  pub coming_none : (low : ℕ) (ids : List ℕ) (left : ℕ) → left ≤ 0 → coming left low ids ≡ []
  unfolding coming each rising
  coming_none low ids zero h = records_none
  coming_none low ids (suc n) h = absurd (omega arith)

  module _ (low : ℕ) (ids : List ℕ) (x : ℕ) (e : x ≡ next low 0 ids) where
    pub coming_next : (left rest : ℕ) → left ≡ suc rest → (x ≡ 0 → ⊥) → coming left low ids ≡ records (f x) ++ coming rest x ids
    unfolding coming each
    coming_next left rest h n = rw (h, rising_turn rest low ids x (sym e) (omega arith)) (records_append (f x) (each f (rising rest x ids)))

    pub coming_end : (left : ℕ) → x ≡ 0 → coming left low ids ≡ []
    unfolding coming each
    coming_end zero z = coming_none low ids zero zero-le
    coming_end (suc left) z = rw (rising_end left low ids (sym e ∙ z)) records_none

  -- b octets at most for each id
  pub each_length : (b : ℕ) → ((x : ℕ) → length (records (f x)) ≤ b) → (l : List ℕ) → length (records (each f l)) ≤ length l * b
  unfolding each
  each_length b h [] = omega (arith, ap length records_none)
  each_length b h (x ∷ l) =
      omega (arith, ap length (records_append (f x) (each f l)), length-append (records (f x)) (records (each f l)), h x, each_length b h l, suc-mul (length l) b)
