-- What sound tables give history: the state of every token after a change of one and of all, and where a user is found when some have left. Assumes nothing.
use Rattle.std.specs.Prelude.{if◌then◌else◌}
use mathlib.Core.Path.{◌≡◌, refl, sym, ap, ◌∙◌}
use mathlib.Core.Bool.{Bool, true, false}
use mathlib.Core.Option.{none, some}
use Prim.Native.Nat.{ℕ, ◌<◌, ◌≤◌}
use native.Mathlib.Omega.{arith}
use lib.Dec.{eqb}
use lib.ListN.{length, get_or}
use lib.Seq.{set-get_or}
use borrow.Author.Tests.{eqb-true, leb-false}
use Rattle.cols_spec.specs.Places.{Place, At, Nowhere, find, found, seat, spare, distinct, used, store, load, turns_to}
use Rattle.cols_spec.specs.Sets.{has}
use Rattle.cols_spec.proofs.Rows.{find_holds, find_none, find_there, get_d_any, sweep_sizes}
use Rattle.cols_spec.proofs.Table.{Table, sweep_used}
use Rattle.cols_spec.proofs.Found.{load_added, load_put, load_cleared, load_swept, find_still, find_kept, find_freed}
use Rattle.domain.specs.declared.token.Holding.{Holding}
use Rattle.domain.specs.declared.token.Holding.TheVariants.{Free}
use Rattle.domain.specs.declared.token.Token.{Token}
use Rattle.domain.specs.Tables.{Users, Tokens, Domain, name, link, stays_on, remove_users, state, set_token, sweep_tokens, is_free, at_limit}
use Rattle.domain.specs.Events.{tokens_full}
use Rattle.domain.specs.Cells.{no_token, hold, token_of}
use Rattle.domain.proofs.invariant.Sound.{Seated, Held, TokenRow, Sound, limits_le, free_is}
use Rattle.domain.proofs.invariant.Seats.{hold_of, held_low}
use Rattle.domain.proofs.invariant.Tests.{apart_distinct}

-- what is read of a free place, and of one of two
hold_none : hold no_token ≡ Free
unfolding hold
hold_none = refl

either_hold : (b : Bool) (t u : Token) → hold (if b then t else u) ≡ (if b then hold t else hold u)
either_hold true t u = refl
either_hold false t u = refl

-- a user that is found sits there
pub found_seated : (us : Users) (u i : ℕ) → find us.ids u ≡ At i → Seated us i
found_seated us u i e = let r = find_holds us.ids u i e in rw r.0 r.2

module _ (d : Domain) (s : Sound d) where
  abbrev ts : Tokens
  ts = d.tokens

  abbrev t : Table 64 d.limits.tokens no_token (TokenRow d.users) ts.ids ts.cells
  t = s.tokens_are

  -- no token stands twice
  pub tokens_distinct : distinct ts.ids ≡ true
  tokens_distinct = apart_distinct ts.ids t.apart

  -- the user that a state names
  pub seated_at : (i : ℕ) → Seated d.users i → find d.users.ids (name d.users i) ≡ At i
  unfolding name
  seated_at i h = find_there d.users.ids s.users_are.apart i h

  state_is : (k : ℕ) {w : Place} → find ts.ids k ≡ w → state ts k ≡ hold (load ts.cells w no_token)
  unfolding state
  state_is k e = ap (λ (p : Place). hold (load ts.cells p no_token)) e

  state_none : (k : ℕ) → find ts.ids k ≡ Nowhere → state ts k ≡ Free
  unfolding load
  state_none k e = state_is k e ∙ hold_none

  -- one token is written, with users that are seated: it is in use, or is free then, or there is room
  pub state_then : (k : ℕ) (h : Holding) → 1 ≤ k → Held d.users h → (is_free (state ts k) ≡ true → is_free h ≡ false → tokens_full d ≡ false)
      → (j : ℕ) → state (set_token ts k h) j ≡ (if eqb j k then h else state ts j)
  unfolding state set_token seat found store is_free tokens_full at_limit
  state_then k h kz x room j = go (is_free h) refl (find ts.ids k) refl
    where
      cleared : Place → Tokens
      cleared p = record { ids = store ts.ids p 0; cells = store ts.cells p no_token }

      written : Place → Tokens
      written p = record { ids = store ts.ids p k; cells = store ts.cells p (token_of h) }

      kept : hold (token_of h) ≡ h
      kept = hold_of h (held_low d.users s.users_are.ids_size h x)

      still : find ts.ids k ≡ Nowhere → h ≡ Free → (b : Bool) → eqb j k ≡ b → state ts j ≡ (if b then h else state ts j)
      still e f true r = ap (state ts) (eqb-true j k r) ∙ state_none k e ∙ sym f
      still e f false r = refl

      go : (b : Bool) → is_free h ≡ b → (w : Place) → find ts.ids k ≡ w
          → state (if b then cleared (find ts.ids k) else written (if found (find ts.ids k) then find ts.ids k else spare ts.ids)) j ≡ (if eqb j k then h else state ts j)
      go true f (At i) e = rw e (ap hold (load_cleared t k i e j) ∙ either_hold (eqb j k) no_token _ ∙ rw (hold_none, free_is h f))
      go true f Nowhere e = rw e (still e (free_is h f) (eqb j k) refl)
      go false f (At i) e =
          let r = find_holds ts.ids k i e in
          rw (e, ← r.0, set-get_or ts.ids i 0, r.0) (ap hold (load_put t k i e (token_of h) j) ∙ either_hold (eqb j k) (token_of h) _ ∙ rw kept)
      go false f Nowhere e = rw e (ap hold (load_added t few (limits_le d.limits s.limits_ok).2 k (token_of h) kz (find_none ts.ids k e kz) j) ∙ either_hold (eqb j k) (token_of h) _ ∙ rw kept)
        where
          few : used ts.ids < d.limits.tokens
          few = leb-false _ _ (room (ap is_free (state_none k e)) f)

  -- every token at once, by a change that keeps seated users
  pub state_swept : (f : (Holding → Holding)) → f Free ≡ Free → ((h : Holding) → Held d.users h → Held d.users (f h)) → (j : ℕ) → state (sweep_tokens f ts) j ≡ f (state ts j)
  unfolding state sweep_tokens load turns_to
  state_swept f z keeps j = go (find ts.ids j) refl
    where
      kept : (i : ℕ) (x : Token) → Held d.users (hold x) → (b : Bool) → is_free (f (hold x)) ≡ b
          → hold (turns_to no_token (get_or ts.ids i 0) (if b then none else some (token_of (f (hold x))))).1 ≡ f (hold x)
      kept i x l true q = hold_none ∙ sym (free_is (f (hold x)) q)
      kept i x l false q = hold_of (f (hold x)) (held_low d.users s.users_are.ids_size (f (hold x)) (keeps (hold x) l))

      go : (w : Place) → find ts.ids j ≡ w → state (sweep_tokens f ts) j ≡ f (state ts j)
      go (At i) e =
          let r = find_holds ts.ids j i e in
          ap hold (load_swept t _ j i e)
          ∙ kept i (get_or ts.cells i no_token) (t.rows i (rw r.0 r.2)).held (is_free (f (hold (get_or ts.cells i no_token)))) refl
          ∙ ap f (sym (state_is j e))
      go Nowhere e = ap (λ (p : Place). hold (load (sweep_tokens f ts).cells p no_token)) (find_still t _ j e) ∙ hold_none ∙ sym (ap f (state_none j e) ∙ z)

-- ---- users that leave

-- a place that is not among those who leave
abbrev pub unless : ℕ → Place → Place
unless gone (At i) = if has gone i then Nowhere else At i
unless gone Nowhere = Nowhere

module _ (d : Domain) (s : Sound d) (gone u : ℕ) where
  -- who stays is found where it was, and on the same connection
  pub find_left : find (remove_users d.users gone).ids u ≡ unless gone (find d.users.ids u)
  unfolding remove_users stays_on
  find_left = go (find d.users.ids u) refl
    where
      go : (w : Place) → find d.users.ids u ≡ w → find (remove_users d.users gone).ids u ≡ unless gone w
      go (At i) e = on (has gone i) refl
        where
          on : (b : Bool) → has gone i ≡ b → find (remove_users d.users gone).ids u ≡ (if b then Nowhere else At i)
          on true q = find_freed s.users_are (stays_on gone) u i e (rw q)
          on false q = find_kept s.users_are (stays_on gone) u i e (get_or d.users.at i 0) (rw q)
      go Nowhere e = find_still s.users_are (stays_on gone) u e

  pub link_left : (i : ℕ) → find d.users.ids u ≡ At i → has gone i ≡ false → link (remove_users d.users gone) i ≡ link d.users i
  unfolding remove_users link stays_on turns_to
  link_left i e q =
      let r = find_holds d.users.ids u i e in
      let l : length d.users.ids ≡ length d.users.at = s.users_are.ids_size ∙ sym s.users_are.cells_size in
      get_d_any (remove_users d.users gone).at i 16 0 (omega (arith, r.1, (sweep_sizes 0 (stays_on gone) 0 d.users.ids d.users.at l).1))
      ∙ (sweep_used s.users_are (λ i x c. Unit {0}) (stays_on gone) i (rw r.0 r.2) (some (get_or d.users.at i 0)) (rw q)).1
      ∙ get_d_any d.users.at i 0 16 (omega (arith, r.1, l))
