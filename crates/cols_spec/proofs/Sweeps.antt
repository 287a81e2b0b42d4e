-- A loop over the places in use of a table, each turn of which makes one place what a sweep makes of it. Any table.
use mathlib.Core.Path.{◌≡◌, refl, sym, ap, ◌∙◌}
use mathlib.Core.List.{List, map}
use mathlib.Core.Option.{Option, none, some}
use Prim.Native.Nat.{ℕ, ◌+◌, ◌≤◌, ◌<◌}
use native.Mathlib.Numerals.{add-one}
use native.Mathlib.Omega.{arith}
use lib.ListN.{length, get_or, set, drop, length-set}
use lib.Seq.{set-get_or}
use borrow.Author.Tests.{eq-eqb, ne_eqb}
use Rattle.cols_spec.specs.Places.{busy, number, becomes, turns_to, sweep}
use Rattle.cols_spec.proofs.Below.{across}
use Rattle.cols_spec.proofs.Places.{Sweeping, sweep_start, sweep_turn, sweep_end}
use Rattle.cols_spec.proofs.Busy.{busy_is}
use Rattle.cols_spec.specs.Swept.{Turns}

module _ {A : Type 0} (blank : A) (fate : ℕ → ℕ → A → Option A) where
  -- one place: free, ending, or with a new cell
  module _ (i : ℕ) (xs : List ℕ) (cs : List A) where
    pub turn_free : get_or xs i 0 ≡ 0 → Turns blank fate i xs cs xs cs
    unfolding becomes
    turn_free e = record { ids = rw (eq-eqb (get_or xs i 0) 0 e) (sym (set-get_or xs i 0)); cells = rw (eq-eqb (get_or xs i 0) 0 e) (sym (set-get_or cs i blank)) }

    module _ (n : get_or xs i 0 ≡ 0 → ⊥) where
      pub turn_ends : fate i (get_or xs i 0) (get_or cs i blank) ≡ none → Turns blank fate i xs cs (set xs i 0) (set cs i blank)
      unfolding becomes turns_to
      turn_ends e = record { ids = rw (ne_eqb (get_or xs i 0) 0 n, e) refl; cells = rw (ne_eqb (get_or xs i 0) 0 n, e) refl }

      pub turn_stays : (c : A) → fate i (get_or xs i 0) (get_or cs i blank) ≡ some c → Turns blank fate i xs cs xs (set cs i c)
      unfolding becomes turns_to
      turn_stays c e = record { ids = rw (ne_eqb (get_or xs i 0) 0 n, e) (sym (set-get_or xs i 0)); cells = rw (ne_eqb (get_or xs i 0) 0 n, e) refl }

      -- as it was
      pub turn_keeps : fate i (get_or xs i 0) (get_or cs i blank) ≡ some (get_or cs i blank) → Turns blank fate i xs cs xs cs
      turn_keeps e = rw (set-get_or cs i blank) at (turn_stays (get_or cs i blank) e)

  -- the loop: the first i of n places are swept
  pub record Sweeps (n : ℕ) (xs₀ : List ℕ) (cs₀ : List A) (i : ℕ) (xs : List ℕ) (cs : List A) : Type 0 where
    pub inside : i ≤ n
    pub ids : length xs ≡ n
    pub cells : length cs ≡ n
    pub swept : Sweeping blank fate xs₀ cs₀ i xs cs

  pub sweeps_start : (n : ℕ) (xs : List ℕ) (cs : List A) → length xs ≡ n → length cs ≡ n → Sweeps n xs cs 0 xs cs
  sweeps_start n xs cs a b = record { inside = omega arith; ids = a; cells = b; swept = sweep_start blank fate xs cs }

  module _ {n : ℕ} {xs₀ : List ℕ} {cs₀ : List A} {i : ℕ} {xs : List ℕ} {cs : List A} (s : Sweeps n xs₀ cs₀ i xs cs) where
    pub sweeps_turn : {ys : List ℕ} {ds : List A} → i < n → Turns blank fate i xs cs ys ds → Sweeps n xs₀ cs₀ (i + 1) ys ds
    sweeps_turn {ys} {ds} h t =
        rw (add-one i)
        (record {
          inside = omega arith;
          ids = ap length t.ids ∙ length-set xs i _ ∙ s.ids;
          cells = ap length t.cells ∙ length-set cs i _ ∙ s.cells;
          swept = rw (t.ids, t.cells) (sweep_turn blank fate s.swept blank (omega arith) (omega arith) _ _ refl);
        })

    pub sweeps_end : n ≤ i → (xs ≡ map (λ r. r.0) (sweep blank fate 0 xs₀ cs₀)) × (cs ≡ map (λ r. r.1) (sweep blank fate 0 xs₀ cs₀))
    sweeps_end h = sweep_end blank fate s.swept blank (omega arith) (omega arith)

  -- places that stay as they are are passed
  module _ {n : ℕ} {xs₀ : List ℕ} {cs₀ : List A} {i : ℕ} {xs : List ℕ} {cs : List A} (s : Sweeps n xs₀ cs₀ i xs cs) where
    pub sweeps_past : (r : ℕ) → i ≤ r → r ≤ n → ((k : ℕ) → i ≤ k → k < r → Turns blank fate k xs cs xs cs) → Sweeps n xs₀ cs₀ r xs cs
    sweeps_past r l h f = across (λ (k : ℕ). Sweeps n xs₀ cs₀ k xs cs) r l (λ k a b q. sweeps_turn q (omega arith) (f k a b)) s

    -- to the next place in use, which the code's `used_from` answers: free places stay as they are
    pub sweeps_next : (r : ℕ) → r ≡ number (length xs) (busy i (drop i xs)) → (i ≤ r) × Sweeps n xs₀ cs₀ r xs cs
    sweeps_next r e =
        let b = busy_is xs i r e in
        let l : i ≤ r = b.behind (omega arith) in
        (l, sweeps_past r l (omega (arith, b.within)) (λ k a h. turn_free k xs cs (b.free k a h)))

  -- a turn of the loop: the place, and on to the next in use
  module _ {n : ℕ} {xs₀ : List ℕ} {cs₀ : List A} {i : ℕ} {xs : List ℕ} {cs : List A} (s : Sweeps n xs₀ cs₀ i xs cs) where
    pub sweeps_step : {ys : List ℕ} {ds : List A} → i < n → Turns blank fate i xs cs ys ds → (r : ℕ) → r ≡ number (length ys) (busy (i + 1) (drop (i + 1) ys)) → (i < r) × Sweeps n xs₀ cs₀ r ys ds
    sweeps_step {ys} {ds} h t r e = let u = sweeps_next (sweeps_turn s h t) r e in (omega (arith, u.0), u.1)
