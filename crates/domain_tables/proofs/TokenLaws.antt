-- Tokens: a cell stored at the place of its token.
use Rattle.std.specs.Prelude.{if◌then◌else◌}
use mathlib.Core.Path.{◌≡◌, refl, ap, ◌∙◌}
use mathlib.Core.List.{List, [], ◌∷◌}
use Prim.Native.Nat.{ℕ, ◌≤◌}
use native.Mathlib.Omega.{arith}
use lib.ListN.{length, get_or, set, get_or-eq_default}
use lib.Seq.{set_out}
use borrow.Author.Tests.{eq-eqb, ne_eqb}
use Rattle.cols_spec.specs.Places.{Place, At, Nowhere, find, found, spare, seat, store, load, number}
use Rattle.domain.specs.declared.token.Holding.{Holding}
use Rattle.domain.specs.declared.token.Holding.TheVariants.{Free, Grabbed, Inhibited, Giving, Given}
use Rattle.domain.specs.declared.token.Token.{Token}
use Rattle.domain.specs.Cells.{no_token, hold, token_of}
use Rattle.domain.specs.Tables.{Tokens, token_cells, is_free, state, set_token}
use Rattle.domain_tables.specs.Numbered.{set_at}

module _ (ts : Tokens) (at : Place) (k : ℕ) (t : Token) (ids : List ℕ) (cells : List Token) where
  pub set_free : t.mode ≡ 0 → ids ≡ store ts.ids at 0 → cells ≡ store ts.cells at t
      → ◌≡◌ {A = Tokens} (record { ids = ids; cells = cells }) (set_at ts at k t)
  unfolding set_at
  set_free f a b = rw (eq-eqb t.mode 0 f, a, b) refl

  pub set_held : (to : Place) → to ≡ (if found at then at else spare ts.ids) → (t.mode ≡ 0 → ⊥) → ids ≡ store ts.ids to k → cells ≡ store ts.cells to t
      → ◌≡◌ {A = Tokens} (record { ids = ids; cells = cells }) (set_at ts at k t)
  unfolding set_at
  set_held to e f a b = rw (ne_eqb t.mode 0 f, a, b, e) refl

-- where the place is the one that is found
pub state_found : (ts : Tokens) (k : ℕ) (h : Holding) (at : Place) → at ≡ find ts.ids k → h ≡ hold (load ts.cells at no_token) → h ≡ state ts k
unfolding state
state_found ts k h at e r = r ∙ ap (λ (w : Place). hold (load ts.cells w no_token)) e

-- the cell of a state, stored there, is that state set
pub set_found : (ts : Tokens) (k : ℕ) (h : Holding) → set_at ts (find ts.ids k) k (token_of h) ≡ set_token ts k h
unfolding set_at set_token seat token_of is_free
set_found ts k Free = refl
set_found ts k (Grabbed g) = refl
set_found ts k (Inhibited us) = refl
set_found ts k (Giving g r) = refl
set_found ts k (Given r) = refl

-- no more cells than states: behind the last there is none
token_count : (ms vs : List ℕ) → length (token_cells ms vs) ≤ length ms
unfolding token_cells
token_count [] vs = omega arith
token_count (m ∷ ms) [] = omega arith
token_count (m ∷ ms) (v ∷ vs) = omega (arith, token_count ms vs)

pub token_none : (ms vs : List ℕ) (i : ℕ) → length ms ≤ i → get_or (token_cells ms vs) i no_token ≡ no_token
token_none ms vs i h = get_or-eq_default (token_cells ms vs) no_token (omega (arith, token_count ms vs))

pub token_out : (ms vs : List ℕ) (i : ℕ) (t : Token) → length ms ≤ i → set (token_cells ms vs) i t ≡ token_cells ms vs
token_out ms vs i t h = set_out (token_cells ms vs) i t (omega (arith, token_count ms vs))

-- stored at the number that a search answers is stored at its place
pub stored : {A : Type 0} (p : Place) (xs : List A) (n j : ℕ) (a : A) → j ≡ number n p → length xs ≤ n → set xs j a ≡ store xs p a
unfolding number store
stored (At i) xs n j a e l = rw e refl
stored Nowhere xs n j a e l = set_out xs j a (omega (arith, e))

pub token_cells_few : (ms vs : List ℕ) (n : ℕ) → length ms ≤ n → length (token_cells ms vs) ≤ n
token_cells_few ms vs n h = omega (arith, token_count ms vs)
