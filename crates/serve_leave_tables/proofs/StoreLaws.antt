-- What becomes of a user's place and of a token's, and the tables once every place is swept.
use mathlib.Core.Path.{◌≡◌, refl, sym}
use mathlib.Core.Bool.{Bool, true, false}
use mathlib.Core.List.{List, [], ◌∷◌}
use Prim.Native.Nat.{ℕ, ◌≤◌}
use native.Mathlib.Omega.{arith}
use lib.Dec.{eqb}
use lib.ListN.{length, get_or, set}
use lib.Seq.{set-get_or}
use borrow.Author.Tests.{eqb-true, eqb-false}
use Rattle.cols_spec.specs.Sets.{has, NextIn}
use Rattle.cols_spec.specs.Places.{At, found, store, load}
use Rattle.cols_spec.specs.Swept.{Turns}
use Rattle.domain.specs.declared.token.Holding.{Holding}
use Rattle.domain.specs.declared.token.Holding.TheVariants.{Free, Grabbed, Inhibited, Giving, Given}
use Rattle.domain.specs.Cells.{no_token, hold, token_of}
use Rattle.domain.specs.Tables.{Tokens, users_of, stays_on, remove_users, tokens_of, token_cells, is_free, sweep_tokens}
use Rattle.domain.specs.Tokens.{lose}
use Rattle.domain_tables.specs.Numbered.{set_at}
use Rattle.serve_leave_tables.specs.Fates.{loses}
use Rattle.cols_spec.proofs.Nexts.{next_behind}
use Rattle.cols_spec.proofs.Sweeps.{turn_free, turn_ends, turn_stays, turn_keeps, Sweeps, sweeps_start, sweeps_past, sweeps_end}

-- ---- users
module _ (gone i : ℕ) (xs cs : List ℕ) where
  pub user_leaves : has gone i ≡ true → (get_or xs i 0 ≡ 0 → ⊥) → Turns 0 (stays_on gone) i xs cs (set xs i 0) (set cs i 0)
  unfolding stays_on
  user_leaves h n = turn_ends 0 (stays_on gone) i xs cs n (rw h refl)

  pub user_stays : has gone i ≡ false → Turns 0 (stays_on gone) i xs cs xs cs
  unfolding stays_on
  user_stays h = go (eqb (get_or xs i 0) 0) refl
    where
      go : (b : Bool) → eqb (get_or xs i 0) 0 ≡ b → Turns 0 (stays_on gone) i xs cs xs cs
      go true e = turn_free 0 (stays_on gone) i xs cs (eqb-true (get_or xs i 0) 0 e)
      go false e = turn_keeps 0 (stays_on gone) i xs cs (eqb-false (get_or xs i 0) 0 e) (rw h refl)

-- to the next user who leaves
pub users_past : {gone j r : ℕ} {xs₀ cs₀ xs cs : List ℕ} → Sweeps 0 (stays_on gone) 64 xs₀ cs₀ j xs cs → NextIn gone j r → Sweeps 0 (stays_on gone) 64 xs₀ cs₀ r xs cs
users_past {gone} {j} {r} {xs₀} {cs₀} {xs} {cs} s x = sweeps_past 0 (stays_on gone) s r (next_behind x s.inside) x.within (λ k a b. user_stays gone k xs cs (x.passed k a b))

pub users_swept : (gone i : ℕ) (xs₀ cs₀ xs cs : List ℕ) → Sweeps 0 (stays_on gone) 64 xs₀ cs₀ i xs cs → 64 ≤ i → users_of xs cs ≡ remove_users (users_of xs₀ cs₀) gone
unfolding remove_users
users_swept gone i xs₀ cs₀ xs cs s h = let e = sweeps_end 0 (stays_on gone) s h in rw (e.0, e.1) refl

-- ---- tokens
-- the token at place j, as the code stores it there
module _ (gone j : ℕ) (ts : Tokens) (n : get_or ts.ids j 0 ≡ 0 → ⊥) where
  abbrev Turned : Tokens → Type 0
  Turned us = Turns no_token (loses gone) j ts.ids ts.cells us.ids us.cells

  pub token_turns : (us : Tokens) (h : Holding) → h ≡ lose gone (hold (load ts.cells (At j) no_token)) → us ≡ set_at ts (At j) (get_or ts.ids j 0) (token_of h) → Turned us
  unfolding set_at store load found token_of is_free
  token_turns us h e w = rw w (go h (sym e))
    where
      stays : (h : Holding) → lose gone (hold (get_or ts.cells j no_token)) ≡ h → is_free h ≡ false → Turned (record { ids = set ts.ids j (get_or ts.ids j 0); cells = set ts.cells j (token_of h) })
      stays h q f = rw (set-get_or ts.ids j 0) (turn_stays no_token (loses gone) j ts.ids ts.cells n (token_of h) (rw (q, f) refl))

      go : (h : Holding) → lose gone (hold (get_or ts.cells j no_token)) ≡ h → Turned (set_at ts (At j) (get_or ts.ids j 0) (token_of h))
      go Free q = turn_ends no_token (loses gone) j ts.ids ts.cells n (rw q refl)
      go (Grabbed g) q = stays (Grabbed g) q refl
      go (Inhibited us) q = stays (Inhibited us) q refl
      go (Giving g r) q = stays (Giving g r) q refl
      go (Given r) q = stays (Given r) q refl

pub tokens_start : (gone : ℕ) (keys ms vs : List ℕ) → length keys ≡ 64 → length ms ≡ 64 → length vs ≡ 64
    → Sweeps no_token (loses gone) 64 keys (token_cells ms vs) 0 keys (token_cells ms vs)
unfolding token_cells
tokens_start gone keys ms vs a b d = sweeps_start no_token (loses gone) 64 keys (token_cells ms vs) a (long 64 ms vs b d)
  where
    long : (n : ℕ) (ms vs : List ℕ) → length ms ≡ n → length vs ≡ n → length (token_cells ms vs) ≡ n
    long n [] vs x y = x
    long n (m ∷ ms) [] x y = absurd (omega arith)
    long n (m ∷ ms) (v ∷ vs) x y = let r = long (length ms) ms vs refl (omega arith) in omega arith

pub tokens_swept : (gone i : ℕ) (keys₀ ms₀ vs₀ keys ms vs : List ℕ) → Sweeps no_token (loses gone) 64 keys₀ (token_cells ms₀ vs₀) i keys (token_cells ms vs) → 64 ≤ i
    → tokens_of keys ms vs ≡ sweep_tokens (lose gone) (tokens_of keys₀ ms₀ vs₀)
unfolding sweep_tokens
tokens_swept gone i keys₀ ms₀ vs₀ keys ms vs s h = let e = sweeps_end no_token (loses gone) s h in rw (e.0, e.1) refl
