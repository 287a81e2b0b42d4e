-- Requests about tokens, on tables that say the same: the same records, and tokens that say the same. Assumes nothing.
use Rattle.std.specs.Prelude.{if◌then◌else◌}
use mathlib.Core.Path.{◌≡◌, refl, sym, ap, ◌∙◌}
use mathlib.Core.Bool.{Bool, true, false, not, false≢true}
use mathlib.Core.List.{[], ◌∷◌}
use Prim.Native.Nat.{ℕ, ◌≤◌}
use native.Mathlib.Omega.{arith}
use lib.Dec.{eqb}
use Rattle.cols_spec.specs.Places.{Place, At, Nowhere, find, found, load}
use Rattle.cols_spec.proofs.Rows.{find_holds}
use Rattle.codec_table.specs.Named.{Message, TGcf, TIcf, TVin, TVcf, TPin, TRcf, TTcf, successful, no_such_user, token_not_possessed}
use Rattle.out_records.specs.Records.{to, tell}
use Rattle.domain.specs.declared.token.Holding.{Holding}
use Rattle.domain.specs.declared.token.Holding.TheVariants.{Giving}
use Rattle.domain.specs.Cells.{no_token, hold}
use Rattle.domain.specs.Tables.{Users, Tokens, Domain, link, state, is_free, set_token, at_limit}
use Rattle.domain.specs.Tokens.{Turned, status, grabbed_by, offered_to, responded}
use Rattle.domain.specs.Effects.{Effect, ignored, done, from}
use Rattle.domain.specs.Passing.{turn, take_token, share_token, drop_token, offer, informed, answer, please, test}
use Rattle.domain.specs.Events.{tokens_full}
use Rattle.domain_laws.specs.Same.{token_at, standing, Same}
use Rattle.domain.proofs.invariant.Sound.{Seated, Held, Sound}
use Rattle.domain.proofs.invariant.Held.{Right, grab_right, inhibit_right, release_right, answered_held, busy_by, state_held}
use Rattle.domain.proofs.holders.Known.{found_seated, state_then}
use Rattle.domain_laws.proofs.same.Twins.{Twins, Pair, Where, there, nowhere, where_is, twins_of, pair_name, pair_link, match_hosts}
use Rattle.domain_laws.proofs.same.Holdings.{Twin, both_free, both_grabbed, both_inhibited, both_giving, both_given, twin_of, twin_says, twin_free, twin_party, twin_status, twin_grabbed_by, twin_offered_to, twin_answered, TwinTurns, fail, turn_to, twin_grab, twin_inhibit, twin_release}
use Rattle.domain_laws.proofs.same.Requests.{Both, skip, both, from_both, used_same}

-- a token is in use where its state is not free
pub token_found : (d : Domain) → Sound d → (k : ℕ) → found (find d.tokens.ids k) ≡ not (is_free (state d.tokens k))
unfolding state load hold is_free found
token_found d s k = go (find d.tokens.ids k) refl
  where
    go : (w : Place) → find d.tokens.ids k ≡ w → found w ≡ not (is_free (hold (load d.tokens.cells w no_token)))
    go (At i) e = let r = find_holds d.tokens.ids k i e in sym (ap not (s.tokens_are.rows i (rw r.0 r.2)).busy)
    go Nowhere e = refl

-- tokens that say the same
abbrev pub TokensSame : (us vs : Users) → Tokens → Tokens → Type 0
TokensSame us vs ts qs = (k : ℕ) → token_at us ts k ≡ token_at vs qs k

-- TVcf to the giver
informed_same : (us vs : Users) → Twins us vs → (n k : ℕ) {h j a b : Holding} → Twin us vs h j → Twin us vs a b → informed us n k h a ≡ informed vs n k j b
unfolding informed
informed_same us vs t n k both_free y = refl
informed_same us vs t n k (both_grabbed p) y = refl
informed_same us vs t n k (both_inhibited x) y = refl
informed_same us vs t n k (both_giving p q) y = rw (pair_link us vs t p, pair_name us vs p, twin_status us vs t p y)
informed_same us vs t n k (both_given p) y = refl

module _ (d e : Domain) (s : Sound d) (r : Sound e) (x : Same d e) where
  abbrev us : Users
  us = d.users

  abbrev vs : Users
  vs = e.users

  twins : Twins us vs
  twins = twins_of d e s r x

  pub states : (k : ℕ) → Twin us vs (state d.tokens k) (state e.tokens k)
  unfolding token_at
  states k = twin_of us vs twins _ _ (state_held d s k) (state_held e r k) (x.tokens k)

  pub tokens_found : (k : ℕ) → found (find d.tokens.ids k) ≡ found (find e.tokens.ids k)
  tokens_found k = token_found d s k ∙ ap not (twin_free us vs twins (states k)) ∙ sym (token_found e r k)

  tokens_full_same : tokens_full d ≡ tokens_full e
  unfolding tokens_full at_limit
  tokens_full_same = rw (
    x.limits,
    used_same d.tokens.ids e.tokens.ids tokens_found s.tokens_are.apart r.tokens_are.apart 65536
        (λ i h. omega (arith, (s.tokens_are.rows i h).small)) (λ i h. omega (arith, (r.tokens_are.rows i h).small)) (omega arith),
  )

  abbrev After : Tokens → Tokens → Type 0
  After = TokensSame us vs

  module _ (k : ℕ) (kz : 1 ≤ k) where
    -- one token is written in both
    set_same : {h j : Holding} → Twin us vs h j → Held us h → Held vs j → (is_free (state d.tokens k) ≡ true → is_free h ≡ false → tokens_full d ≡ false)
        → (is_free (state e.tokens k) ≡ true → is_free j ≡ false → tokens_full e ≡ false) → After (set_token d.tokens k h) (set_token e.tokens k j)
    unfolding token_at
    set_same {h} {j} w a b f g y = rw (state_then d s k h kz a f y, state_then e r k j kz b g y) (go (eqb y k))
      where
        go : (c : Bool) → standing us (if c then h else state d.tokens y) ≡ standing vs (if c then j else state e.tokens y)
        go true = twin_says us vs twins w
        go false = twin_says us vs twins (states y)

    module _ (p u : ℕ) where
      -- a turn of the token
      turn_both : (i j : ℕ) → Pair us vs i j → (confirm : ℕ → ℕ → ℕ → ℕ → Message) {a b : Turned} → TwinTurns us vs a b
          → Right us (tokens_full d) (state d.tokens k) a → Right vs (tokens_full e) (state e.tokens k) b
          → Both After (turn d.tokens p u i k confirm a) (turn e.tokens p u j k confirm b)
      unfolding turn
      turn_both i j q confirm (fail n) f g = both (ap (λ (z : ℕ). to p (confirm n u k z) ∷ []) (twin_status us vs twins q (states k))) x.tokens
      turn_both i j q confirm (turn_to w) f g = both (ap (λ (z : ℕ). to p (confirm successful u k z) ∷ []) (twin_status us vs twins q w)) (set_same w f.0 g.0 f.1 g.1)

      -- asked by an attached user
      asked_both : (confirm : ℕ → ℕ → ℕ → ℕ → Message) (f g : ℕ → Turned) → ((i j : ℕ) → Pair us vs i j → TwinTurns us vs (f i) (g j))
          → ((i : ℕ) → Seated us i → Right us (tokens_full d) (state d.tokens k) (f i)) → ((j : ℕ) → Seated vs j → Right vs (tokens_full e) (state e.tokens k) (g j))
          → Both After (from us p u λ i. turn d.tokens p u i k confirm (f i)) (from vs p u λ i. turn e.tokens p u i k confirm (g i))
      asked_both confirm f g w a b = from_both After us vs twins p u _ _ (λ i j m n l o.
          let q : Pair us vs i j = record { id = u; left = m; right = n } in
          turn_both i j q confirm (w i j q) (a i (found_seated us u i m)) (b j (found_seated vs u j n)))

      pub grab_both : Both After (take_token (tokens_full d) us d.tokens p u k) (take_token (tokens_full e) vs e.tokens p u k)
      unfolding take_token
      grab_both = asked_both TGcf _ _ (λ i j q. rw tokens_full_same (twin_grab us vs twins q (tokens_full e) (states k)))
          (λ i h. grab_right us s.users_are.ids_size i h (tokens_full d) (state d.tokens k) (state_held d s k))
          (λ j h. grab_right vs r.users_are.ids_size j h (tokens_full e) (state e.tokens k) (state_held e r k))

      pub inhibit_both : Both After (share_token (tokens_full d) us d.tokens p u k) (share_token (tokens_full e) vs e.tokens p u k)
      unfolding share_token
      inhibit_both = asked_both TIcf _ _ (λ i j q. rw tokens_full_same (twin_inhibit us vs twins q (tokens_full e) (states k)))
          (λ i h. inhibit_right us s.users_are.ids_size i h (tokens_full d) (state d.tokens k) (state_held d s k))
          (λ j h. inhibit_right vs r.users_are.ids_size j h (tokens_full e) (state e.tokens k) (state_held e r k))

      pub release_both : Both After (drop_token us d.tokens p u k) (drop_token vs e.tokens p u k)
      unfolding drop_token
      release_both = asked_both TRcf _ _ (λ i j q. twin_release us vs twins q (states k))
          (λ i h. release_right us s.users_are.ids_size i h (tokens_full d) (state d.tokens k) (state_held d s k))
          (λ j h. release_right vs r.users_are.ids_size j h (tokens_full e) (state e.tokens k) (state_held e r k))

      pub offer_both : (v : ℕ) → Both After (offer us d.tokens p u k v) (offer vs e.tokens p u k v)
      unfolding offer grabbed_by
      offer_both v = from_both After us vs twins p u _ _ (λ i j m n l o.
          grabbed i j (record { id = u; left = m; right = n }) (found_seated us u i m) (found_seated vs u j n) (grabbed_by (state d.tokens k) i) refl (grabbed_by (state e.tokens k) j) refl)
        where
          chosen : Users → Tokens → ℕ → Place → Effect Tokens
          chosen ws ts i w = elim w [
            | At j ↦ done (set_token ts k (Giving i j)) (to (link ws j) (TVin u k v) ∷ [])
            | Nowhere ↦ done ts (to p (TVcf no_such_user u k (status (state ts k) i)) ∷ [])
          ]

          to_whom : (i j : ℕ) → Pair us vs i j → Seated us i → Seated vs j → grabbed_by (state d.tokens k) i ≡ true → grabbed_by (state e.tokens k) j ≡ true → Where us vs v
              → Both After (chosen us d.tokens i (find us.ids v)) (chosen vs e.tokens j (find vs.ids v))
          to_whom i j q a b f g (there {i = m} {j = n} y z l) =
              rw (ap (chosen us d.tokens i) y, ap (chosen vs e.tokens j) z)
              (both (ap (λ (z : ℕ). to z (TVin u k v) ∷ []) l) (set_same (both_giving q (record { id = v; left = y; right = z })) (a, found_seated us v m y) (b, found_seated vs v n z)
              (λ h o. absurd (false≢true (sym (busy_by (λ h. grabbed_by h i) refl (state d.tokens k) f) ∙ h)))
              (λ h o. absurd (false≢true (sym (busy_by (λ h. grabbed_by h j) refl (state e.tokens k) g) ∙ h)))))
          to_whom i j q a b f g (nowhere y z) =
              rw (ap (chosen us d.tokens i) y, ap (chosen vs e.tokens j) z) (both (ap (λ (z : ℕ). to p (TVcf no_such_user u k z) ∷ []) (twin_status us vs twins q (states k))) x.tokens)

          grabbed : (i j : ℕ) → Pair us vs i j → Seated us i → Seated vs j → (f : Bool) → grabbed_by (state d.tokens k) i ≡ f → (g : Bool) → grabbed_by (state e.tokens k) j ≡ g
              → Both After (if f then chosen us d.tokens i (find us.ids v) else done d.tokens (to p (TVcf token_not_possessed u k (status (state d.tokens k) i)) ∷ []))
              (if g then chosen vs e.tokens j (find vs.ids v) else done e.tokens (to p (TVcf token_not_possessed u k (status (state e.tokens k) j)) ∷ []))
          grabbed i j q a b true f true g = to_whom i j q a b f g (where_is us vs twins v)
          grabbed i j q a b true f false g = absurd (false≢true (sym g ∙ sym (twin_grabbed_by us vs twins q (states k)) ∙ f))
          grabbed i j q a b false f true g = absurd (false≢true (sym f ∙ twin_grabbed_by us vs twins q (states k) ∙ g))
          grabbed i j q a b false f false g = both (ap (λ (z : ℕ). to p (TVcf token_not_possessed u k z) ∷ []) (twin_status us vs twins q (states k))) x.tokens

      pub answer_both : (n : ℕ) → Both After (answer us d.tokens p n u k) (answer vs e.tokens p n u k)
      unfolding answer offered_to
      answer_both n = from_both After us vs twins p u _ _ (λ i j a b l o.
          offered i j (record { id = u; left = a; right = b }) (found_seated us u i a) (found_seated vs u j b) (offered_to (state d.tokens k) i) refl (offered_to (state e.tokens k) j) refl)
        where
          then_is : Tokens → ℕ → Holding
          then_is ts i = responded (eqb n successful) (state ts k) i

          offered : (i j : ℕ) → Pair us vs i j → Seated us i → Seated vs j → (f : Bool) → offered_to (state d.tokens k) i ≡ f → (g : Bool) → offered_to (state e.tokens k) j ≡ g
              → Both After (if f then done (set_token d.tokens k (then_is d.tokens i)) (informed us n k (state d.tokens k) (then_is d.tokens i)) else ignored)
              (if g then done (set_token e.tokens k (then_is e.tokens j)) (informed vs n k (state e.tokens k) (then_is e.tokens j)) else ignored)
          offered i j q a b true f true g =
              let w = twin_answered us vs twins q (eqb n successful) (states k) in
              both (informed_same us vs twins n k (states k) w)
              (set_same w (answered_held us s.users_are.ids_size i a (eqb n successful) _ (state_held d s k)) (answered_held vs r.users_are.ids_size j b (eqb n successful) _ (state_held e r k))
              (λ h o. absurd (false≢true (sym (busy_by (λ h. offered_to h i) refl (state d.tokens k) f) ∙ h)))
              (λ h o. absurd (false≢true (sym (busy_by (λ h. offered_to h j) refl (state e.tokens k) g) ∙ h))))
          offered i j q a b true f false g = absurd (false≢true (sym g ∙ sym (twin_offered_to us vs twins q (states k)) ∙ f))
          offered i j q a b false f true g = absurd (false≢true (sym f ∙ twin_offered_to us vs twins q (states k) ∙ g))
          offered i j q a b false f false g = skip

  -- these change nothing
  pub please_both : (p u k : ℕ) → Both After (please us d.tokens p u k) (please vs e.tokens p u k)
  unfolding please
  please_both p u k = from_both After us vs twins p u _ _ (λ i j m n l o. both (ap (λ (z : ℕ). tell z (TPin u k)) (match_hosts us vs twins (twin_party us vs twins (states k)))) x.tokens)

  pub test_both : (p u k : ℕ) → Both After (test us d.tokens p u k) (test vs e.tokens p u k)
  unfolding test
  test_both p u k = from_both After us vs twins p u _ _ (λ i j m n l o. both (ap (λ (z : ℕ). to p (TTcf u k z) ∷ []) (twin_status us vs twins (record { id = u; left = m; right = n }) (states k))) x.tokens)
