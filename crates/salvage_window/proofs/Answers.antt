-- The answers of the functions that take a turn. Assumes nothing.
use Prim.Native.Nat.{ℕ, suc, ◌-◌, ◌*◌, ◌≤◌}
use mathlib.Core.Path.{◌≡◌, sym, ap, ◌∙◌}
use mathlib.Core.Logic.{◌≢◌}
use mathlib.Core.Bool.{Bool, true, false, not, cond}
use mathlib.Core.List.{List, [], ◌∷◌}
use native.Mathlib.Omega.{arith}
use borrow.Author.Tests.{lt-ltb, le-ltb, ne_eqb}
use lib.ListN.{length, length-drop}
use Rattle.trace_frames.specs.Good.{longest}
use Rattle.salvage_window.specs.declared.Turn.{Turn}
use Rattle.salvage_window.specs.Claims.{TurnWithin}
use Rattle.salvage_window.proofs.Turns.{keeps_most}
use Rattle.salvage_window.specs.Windows.{decided, keeps, stops, skips, expected, passed, turn_of}

abbrev made : ℕ → Bool → Bool → Turn
made octets kept cutting = record { octets = octets; kept = kept; cutting = cutting }

pub skips_most : (ended : Bool) (w : List ℕ) → skips ended w ≤ length w
unfolding skips
skips_most ended [] = omega arith
skips_most ended (o ∷ w) = go (stops ended (o ∷ w)) (skips_most ended w)
  where
    go : (t : Bool) → skips ended w ≤ length w → cond t 0 (suc (skips ended w)) ≤ suc (length w)
    go true h = omega arith
    go false h = omega arith

module _ (ended : Bool) (w : List ℕ) where
  pub passed_is : (n : ℕ) (d : Bool) → n ≡ skips ended w → d ≡ decided ended (2 * longest) (length w - n) → made n false (not d) ≡ passed ended w
  unfolding passed
  passed_is n d e f =
      ap (λ t. made n false (not t)) f
      ∙ ap (λ k. made k false (not (decided ended (2 * longest) (length w - k)))) e
      ∙ ap (λ m. made (skips ended w) false (not (decided ended (2 * longest) m))) (sym (length-drop (skips ended w) w))

  module _ (n : ℕ) (e : n ≡ keeps ended w) where
    pub none_left : n ≡ 0 → length w ≡ 0 → made n false false ≡ expected ended w
    unfolding expected
    none_left z h = simp (sym e, z, le-ltb 0 (length w) (omega arith))

    pub none_begins : n ≡ 0 → length w ≢ 0 → (d : Bool) → d ≡ decided ended longest (length w) → made n false d ≡ expected ended w
    unfolding expected
    none_begins z h d f = simp (sym e, z, lt-ltb 0 (length w) (omega arith), f)

    pub some_kept : n ≢ 0 → made n true false ≡ expected ended w
    unfolding expected
    some_kept h = simp (sym e, lt-ltb 0 n (omega arith), ne_eqb n 0 h)

  pub in_cut : (cutting : Bool) → cutting ≡ true → passed ended w ≡ turn_of ended w cutting
  unfolding turn_of
  in_cut cutting e = simp e

  pub expecting : (cutting : Bool) → cutting ≡ false → expected ended w ≡ turn_of ended w cutting
  unfolding turn_of
  expecting cutting e = simp e

pub within : TurnWithin
unfolding turn_of expected passed
within ended w true = skips_most ended w
within ended w false = keeps_most ended w

pub inside : (ended : Bool) (w : List ℕ) (cutting : Bool) (t : Turn) → t ≡ turn_of ended w cutting → t.octets ≤ length w
inside ended w cutting t e = rw e (within ended w cutting)
