-- A token's users are seated, and TGrq, TIrq, TRrq, TVrq, TVrs leave the tables sound. Assumes nothing.
use Rattle.std.specs.Prelude.{if◌then◌else◌}
use mathlib.Core.Path.{◌≡◌, refl, sym, ap, ◌∙◌, subst⁻¹}
use mathlib.Core.Bool.{Bool, true, false, false≢true}
use mathlib.Core.List.{[], ◌∷◌}
use Prim.Native.Nat.{ℕ, ◌≤◌, ◌<◌}
use native.Mathlib.Omega.{arith}
use lib.Dec.{eqb}
use lib.ListN.{length, get_or}
use borrow.Author.Tests.{eqb-false, leb-false}
use Rattle.cols_spec.specs.Sets.{has, with, without, only, seats}
use Rattle.cols_spec.specs.Places.{Place, At, Nowhere, find, found, spare, seat, used, store, load}
use Rattle.cols_spec.proofs.Marks.{Marks, has_pos, marks_only, marks_with, marks_without, marks_minus, only_self, with_new}
use Rattle.cols_spec.proofs.Rows.{find_holds, find_none}
use Rattle.cols_spec.proofs.Table.{Table, table_put, table_clear, table_add}
use Rattle.codec_table.specs.Named.{Message, TGcf, TIcf, TRcf, TVcf, TVin, successful, no_such_user, token_not_available, token_not_possessed}
use Rattle.out_records.specs.Records.{to}
use Rattle.domain.specs.declared.token.Holding.{Holding}
use Rattle.domain.specs.declared.token.Holding.TheVariants.{Free, Grabbed, Inhibited, Giving, Given}
use Rattle.domain.specs.Cells.{no_token, hold, token_of}
use Rattle.domain.specs.Tables.{Users, Tokens, Domain, link, state, is_free, set_token, put_tokens, at_limit}
use Rattle.domain.specs.Tokens.{Turned, fails, turns, status, grab, inhibit, release, inhibited, grabbed_by, offered_to, responded, lose_offer, lose}
use Rattle.domain.specs.Effects.{Effect, ignored, done, from, within}
use Rattle.domain.specs.Passing.{turn, take_token, share_token, drop_token, offer, informed, answer}
use Rattle.domain.specs.Events.{tokens_full}
use Rattle.domain.proofs.invariant.Sound.{Seated, Held, TokenRow, Sound, limits_le, Fine}
use Rattle.domain.proofs.invariant.Seats.{hold_of, held_low, seated_low}
use Rattle.domain.proofs.invariant.From.{Sits, from_fine}

-- ---- one token

-- what a turn of a token asks: its users are seated, and a free token is taken only below the limit
abbrev pub Right : Users → Bool → Holding → Turned → Type 0
Right us full old (fails n) = Unit {0}
Right us full old (turns h) = Held us h × (is_free old ≡ true → is_free h ≡ false → full ≡ false)

-- a token that is not free is turned where a test passes
turned_if : (us : Users) (full test : Bool) (old h : Holding) (n : ℕ) → is_free old ≡ false → Held us h → Right us full old (if test then turns h else fails n)
turned_if us full true old h n e x = (x, λ a b. absurd (false≢true (sym e ∙ a)))
turned_if us full false old h n e x = tt

-- free where a test passes, else a state whose users are seated
free_or : (us : Users) (test : Bool) (h : Holding) → (test ≡ false → Held us h) → Held us (if test then Free else h)
free_or us true h f = tt
free_or us false h f = f refl

-- a set of seated users, free if it is empty
held_inhibited : (us : Users) (m : ℕ) → Marks 64 m (Seated us) → Held us (inhibited m)
unfolding inhibited
held_inhibited us m x = free_or us (eqb m 0) (Inhibited m) (λ e. let n : m ≡ 0 → ⊥ = eqb-false m 0 e in (omega arith, x))

-- requests by the user at place i
module _ (us : Users) (sized : length us.ids ≡ 64) (i : ℕ) (here : Seated us i) where
  low : i < 64
  low = seated_low us sized i here

  -- inhibited by that user alone
  held_only : Held us (Inhibited (only seats i))
  held_only = (has_pos (only seats i) i (only_self 64 i low), marks_only 64 i here)

  -- TGrq
  pub grab_right : (full : Bool) (h : Holding) → Held us h → Right us full h (grab full h i)
  unfolding grab is_free
  grab_right true Free x = tt
  grab_right false Free x = (here, λ a b. refl)
  grab_right full (Grabbed g) x = tt
  grab_right full (Inhibited is) x = turned_if us full (eqb is (only seats i)) (Inhibited is) (Grabbed i) token_not_available refl here
  grab_right full (Giving g r) x = tt
  grab_right full (Given r) x = tt

  -- TIrq
  pub inhibit_right : (full : Bool) (h : Holding) → Held us h → Right us full h (inhibit full h i)
  unfolding inhibit is_free
  inhibit_right true Free x = tt
  inhibit_right false Free x = (held_only, λ a b. refl)
  inhibit_right full (Grabbed g) x = turned_if us full (eqb g i) (Grabbed g) (Inhibited (only seats i)) token_not_available refl held_only
  inhibit_right full (Inhibited is) x =
      turned_if us full true (Inhibited is) (Inhibited (with seats is i)) 0 refl (has_pos (with seats is i) i (with_new 64 is i low), marks_with 64 is i x.1 here)
  inhibit_right full (Giving g r) x = tt
  inhibit_right full (Given r) x = tt

  -- TRrq
  pub release_right : (full : Bool) (h : Holding) → Held us h → Right us full h (release h i)
  unfolding release is_free
  release_right full Free x = tt
  release_right full (Grabbed g) x = turned_if us full (eqb g i) (Grabbed g) Free token_not_possessed refl tt
  release_right full (Inhibited is) x =
      turned_if us full (has is i) (Inhibited is) (inhibited (without seats is i)) token_not_possessed refl (held_inhibited us _ (marks_without 64 is i (λ q h n. x.1.are q h)))
  release_right full (Giving g r) x = turned_if us full (eqb g i) (Giving g r) (Given r) token_not_possessed refl x.1
  release_right full (Given r) x = tt

  -- TVrs
  pub answered_held : (b : Bool) (h : Holding) → Held us h → Held us (responded b h i)
  unfolding responded
  answered_held true h x = here
  answered_held false Free x = tt
  answered_held false (Grabbed g) x = x
  answered_held false (Inhibited is) x = x
  answered_held false (Giving g r) x = x.0
  answered_held false (Given r) x = tt

-- a token that passes a test which a free one does not is not free
pub busy_by : (f : (Holding → Bool)) → f Free ≡ false → (h : Holding) → f h ≡ true → is_free h ≡ false
unfolding is_free
busy_by f z Free e = absurd (false≢true (sym z ∙ e))
busy_by f z (Grabbed g) e = refl
busy_by f z (Inhibited is) e = refl
busy_by f z (Giving g r) e = refl
busy_by f z (Given r) e = refl

-- leavers, where those who do not leave keep their seats
pub lose_held : (us us' : Users) (gone : ℕ) → ((i : ℕ) → Seated us i → has gone i ≡ false → Seated us' i)
    → (h : Holding) → Held us h → Held us' (lose gone h)
unfolding lose lose_offer
lose_held us us' gone k Free x = tt
lose_held us us' gone k (Grabbed g) x = free_or us' (has gone g) (Grabbed g) (k g x)
lose_held us us' gone k (Inhibited is) x = held_inhibited us' _ (marks_minus 64 is gone (λ q h n. k q (x.1.are q h) n))
lose_held us us' gone k (Giving g r) x = go (has gone g) refl (has gone r) refl
  where
    go : (a : Bool) → has gone g ≡ a → (b : Bool) → has gone r ≡ b → Held us' (lose_offer a b g r)
    go true e true f = tt
    go true e false f = k r x.1 f
    go false e true f = k g x.0 e
    go false e false f = (k g x.0 e, k r x.1 f)
lose_held us us' gone k (Given r) x = free_or us' (has gone r) (Given r) (k r x)

-- ---- the table

-- what is stored of a state whose users are seated
pub token_row : (us : Users) → length us.ids ≡ 64 → (i k : ℕ) (h : Holding) → k ≤ 65535 → is_free h ≡ false → Held us h → TokenRow us i k (token_of h)
token_row us n i k h hi f x =
    let e = hold_of h (held_low us n h x) in
    record { small = hi; plain = ap token_of (sym e); busy = ap is_free e ∙ f; held = subst⁻¹ (Held us) e x }

module _ (d : Domain) (s : Sound d) where
  -- the tables with other tokens
  pub with_tokens : (ts : Tokens) → Table 64 d.limits.tokens no_token (TokenRow d.users) ts.ids ts.cells → Sound (put_tokens d ts)
  with_tokens ts t = record { limits_ok = s.limits_ok; links_fit = s.links_fit; users_are = s.users_are; channels_are = s.channels_are; tokens_are = t }

  -- the users of a token's state are seated
  pub state_held : (k : ℕ) → Held d.users (state d.tokens k)
  unfolding state load hold
  state_held k = go (find d.tokens.ids k) refl
    where
      go : (p : Place) → find d.tokens.ids k ≡ p → Held d.users (hold (load d.tokens.cells p no_token))
      go (At j) e = let r = find_holds d.tokens.ids k j e in (s.tokens_are.rows j (rw r.0 r.2)).held
      go Nowhere e = tt

  -- a token with a new state: its users are seated, and a free token is taken only below the limit
  pub token_set : (k : ℕ) (h : Holding) → 1 ≤ k → k ≤ 65535 → Held d.users h → (is_free (state d.tokens k) ≡ true → is_free h ≡ false → tokens_full d ≡ false)
      → Sound (put_tokens d (set_token d.tokens k h))
  unfolding set_token seat store found state load is_free hold tokens_full at_limit
  token_set k h lo hi x room = with_tokens _ (go (is_free h) refl (find d.tokens.ids k) refl)
    where
      ts : Tokens
      ts = d.tokens

      New : Tokens → Type 0
      New n = Table 64 d.limits.tokens no_token (TokenRow d.users) n.ids n.cells

      cleared : Place → Tokens
      cleared p = record { ids = store ts.ids p 0; cells = store ts.cells p no_token }

      written : Place → Tokens
      written p = record { ids = store ts.ids p k; cells = store ts.cells p (token_of h) }

      t : Table 64 d.limits.tokens no_token (TokenRow d.users) ts.ids ts.cells
      t = s.tokens_are

      used_at : (j : ℕ) → find ts.ids k ≡ At j → 0 < get_or ts.ids j 0
      used_at j e = rw (find_holds ts.ids k j e).0 lo

      row : is_free h ≡ false → (j : ℕ) → TokenRow d.users j k (token_of h)
      row f j = token_row d.users s.users_are.ids_size j k h hi f x

      go : (b : Bool) → is_free h ≡ b → (p : Place) → find ts.ids k ≡ p
          → New (if b then cleared (find ts.ids k) else written (if found (find ts.ids k) then find ts.ids k else spare ts.ids))
      go true f (At j) e = rw e (table_clear t _ j (used_at j e) (λ i n l r. r))
      go true f Nowhere e = rw e t
      go false f (At j) e = let b = (find_holds ts.ids k j e).0 in
          rw e (table_put t _ j (used_at j e) (λ i n l r. r) k (token_of h) (λ l. (sym b, rw b (row f j))) (λ z. absurd (omega arith)))
      go false f Nowhere e = rw e (table_add t _ few (limits_le d.limits s.limits_ok).2 k (token_of h) lo (λ i q. find_none ts.ids k e lo i q) (row f) (λ i l r. r))
        where
          few : used ts.ids < d.limits.tokens
          few = leb-false _ _ (room (ap (λ (p : Place). is_free (hold (load ts.cells p no_token))) e) f)

  -- ---- the requests

  module _ (k : ℕ) (lo : 1 ≤ k) (hi : k ≤ 65535) where
    -- a turn that is right
    turn_fine : (p u i : ℕ) (confirm : ℕ → ℕ → ℕ → ℕ → Message) (t : Turned) → Right d.users (tokens_full d) (state d.tokens k) t
        → Fine (within (put_tokens d) (turn d.tokens p u i k confirm t))
    unfolding turn within
    turn_fine p u i confirm (fails n) r = s
    turn_fine p u i confirm (turns h) r = token_set k h lo hi r.0 r.1

    module _ (p u : ℕ) where
      -- asked by an attached user
      asked_fine : (confirm : ℕ → ℕ → ℕ → ℕ → Message) (t : ℕ → Turned) → ((i : ℕ) → Seated d.users i → Right d.users (tokens_full d) (state d.tokens k) (t i))
          → Fine (within (put_tokens d) (from d.users p u λ i. turn d.tokens p u i k confirm (t i)))
      asked_fine confirm t f = from_fine (put_tokens d) d s p u _ (λ i w. turn_fine p u i confirm (t i) (f i w.seated))

      -- TGrq, TIrq, TRrq, TVrq, TVrs
      pub grab_fine : Fine (within (put_tokens d) (take_token (tokens_full d) d.users d.tokens p u k))
      unfolding take_token
      grab_fine = asked_fine TGcf _ (λ i h. grab_right d.users s.users_are.ids_size i h (tokens_full d) (state d.tokens k) (state_held k))

      pub inhibit_fine : Fine (within (put_tokens d) (share_token (tokens_full d) d.users d.tokens p u k))
      unfolding share_token
      inhibit_fine = asked_fine TIcf _ (λ i h. inhibit_right d.users s.users_are.ids_size i h (tokens_full d) (state d.tokens k) (state_held k))

      pub release_fine : Fine (within (put_tokens d) (drop_token d.users d.tokens p u k))
      unfolding drop_token
      release_fine = asked_fine TRcf _ (λ i h. release_right d.users s.users_are.ids_size i h (tokens_full d) (state d.tokens k) (state_held k))

      pub offer_fine : (r : ℕ) → Fine (within (put_tokens d) (offer d.users d.tokens p u k r))
      unfolding offer grabbed_by is_free within
      offer_fine r = from_fine (put_tokens d) d s p u _ (λ i w. grabbed i w (grabbed_by (state d.tokens k) i) refl)
        where
          chosen : ℕ → Place → Effect Tokens
          chosen i w = elim w [
            | At j ↦ done (set_token d.tokens k (Giving i j)) (to (link d.users j) (TVin u k r) ∷ [])
            | Nowhere ↦ done d.tokens (to p (TVcf no_such_user u k (status (state d.tokens k) i)) ∷ [])
          ]

          to_whom : (i : ℕ) → Sits d.users p u i → grabbed_by (state d.tokens k) i ≡ true → (w : Place) → find d.users.ids r ≡ w
              → Fine (within (put_tokens d) (chosen i w))
          to_whom i w b (At j) e =
              let v = find_holds d.users.ids r j e in
              token_set k (Giving i j) lo hi (w.seated, rw v.0 v.2) (λ z y. absurd (false≢true (sym (busy_by (λ h. grabbed_by h i) refl (state d.tokens k) b) ∙ z)))
          to_whom i w b Nowhere e = s

          grabbed : (i : ℕ) → Sits d.users p u i → (b : Bool) → grabbed_by (state d.tokens k) i ≡ b
              → Fine (within (put_tokens d) (if b then chosen i (find d.users.ids r)
              else done d.tokens (to p (TVcf token_not_possessed u k (status (state d.tokens k) i)) ∷ [])))
          grabbed i w true b = to_whom i w b (find d.users.ids r) refl
          grabbed i w false b = s

      pub answer_fine : (n : ℕ) → Fine (within (put_tokens d) (answer d.users d.tokens p n u k))
      unfolding answer offered_to within
      answer_fine n = from_fine (put_tokens d) d s p u _ (λ i w. offered i w (offered_to (state d.tokens k) i) refl)
        where
          offered : (i : ℕ) → Sits d.users p u i → (b : Bool) → offered_to (state d.tokens k) i ≡ b
              → Fine (within (put_tokens d) (if b then done (set_token d.tokens k (responded (eqb n successful) (state d.tokens k) i))
              (informed d.users n k (state d.tokens k) (responded (eqb n successful) (state d.tokens k) i)) else ignored))
          offered i w true b =
              token_set k _ lo hi (answered_held d.users s.users_are.ids_size i w.seated (eqb n successful) (state d.tokens k) (state_held k))
              (λ z y. absurd (false≢true (sym (busy_by (λ h. offered_to h i) refl (state d.tokens k) b) ∙ z)))
          offered i w false b = tt
