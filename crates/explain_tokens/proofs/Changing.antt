-- The places that changed, one after the other. Assumes nothing.
use Rattle.std.specs.Prelude.{if◌then◌else◌}
use Prim.Native.Nat.{ℕ, ◌+◌, ◌≤◌, ◌<◌}
use mathlib.Core.Path.{◌≡◌, sym, ap, ap₂, ◌∙◌}
use mathlib.Core.List.{List, ◌++◌}
use native.Mathlib.Omega.{arith}
use lib.ListN.{length, take, drop, get_or, set, take-append-drop}
use lib.Seq.{take-set-le, take-set-lt, drop-set-lt, drop-set-add}
use Rattle.domain.specs.Tables.{Tokens}
use Rattle.explain_tokens.specs.Holders.{picked_from, changed_at, changed_ids}
use Rattle.explain_tokens.proofs.HolderLaws.{Filled, filled_start, picked_more, picked_all}

-- the first i places are looked at: the ids of those that changed stand in the list's two halves
pub record Changing (before after : Tokens) (i : ℕ) (list : List ℕ) : Type 0 where
  pub was : Filled (picked_from (changed_at before after) 0 before.ids) i (take 64 list)
  pub is : Filled (picked_from (changed_at before after) 0 after.ids) i (drop 64 list)

pub changing_start : {before after : Tokens} {list : List ℕ} → length (take 64 list) ≡ 64 → length (drop 64 list) ≡ 64 → Changing before after 0 list
changing_start a b = record { was = filled_start a; is = filled_start b }

module _ (before after : Tokens) (m : length before.ids ≡ 64) (n : length after.ids ≡ 64) {i : ℕ} {list : List ℕ} (t : Changing before after i list) where
  front : (b a : ℕ) → i < 64 → take 64 (set (set list i b) (64 + i) a) ≡ set (take 64 list) i b
  front b a h = take-set-le 64 (set list i b) (64 + i) a (omega arith) ∙ take-set-lt 64 list i b h

  back : (b a : ℕ) → i < 64 → drop 64 (set (set list i b) (64 + i) a) ≡ set (drop 64 list) i a
  back b a h = drop-set-add 64 (set list i b) i a ∙ ap (λ l. set l i a) (drop-set-lt 64 list i b h)

  pub changing_more : (b a : ℕ) → i < 64 → b ≡ (if changed_at before after i then get_or before.ids i 0 else 0) → a ≡ (if changed_at before after i then get_or after.ids i 0 else 0)
      → Changing before after (i + 1) (set (set list i b) (64 + i) a)
  changing_more b a h p q = record {
    was = rw (front b a h) (picked_more (changed_at before after) before.ids b m t.was h p);
    is = rw (back b a h) (picked_more (changed_at before after) after.ids a n t.is h q);
  }

  pub changing_all : 64 ≤ i → list ≡ changed_ids before after
  unfolding changed_ids
  changing_all h = sym (take-append-drop 64 list) ∙ ap₂ ◌++◌ (picked_all (changed_at before after) before.ids m t.was h) (picked_all (changed_at before after) after.ids n t.is h)
