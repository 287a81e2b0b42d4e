-- A grab or an inhibit is told too-many-tokens exactly where a free token is asked for at the limit. Assumes nothing.
use Rattle.std.specs.Prelude.{if◌then◌else◌}
use mathlib.Core.Path.{◌≡◌, refl, sym, ap, ◌∙◌}
use mathlib.Core.Bool.{Bool, true, false, not, ◌&&◌, or-false, not-not}
use mathlib.Core.List.{List, [], ◌∷◌}
use mathlib.Core.Option.{none, some, some-injective}
use Prim.Native.Nat.{ℕ}
use native.Mathlib.Omega.{arith}
use lib.Dec.{eqb, leb, ltb}
use lib.ListN.{length}
use borrow.Author.Tests.{eq-eqb, eqb-true}
use Rattle.cols_spec.specs.Places.{Place, At, Nowhere, find}
use Rattle.cols_spec.specs.Sets.{any, member, only, seats}
use Rattle.codec_table.specs.Named.{Message, successful, token_not_available, too_many_tokens}
use Rattle.out_records.specs.Records.{Sent, to, records}
use Rattle.cols_spec.proofs.Bools.{none≢some}
use Rattle.domain.specs.declared.token.Holding.{Holding}
use Rattle.domain.specs.declared.token.Holding.TheVariants.{Free, Grabbed, Inhibited, Giving, Given}
use Rattle.domain.specs.Tables.{Tokens, Domain, link, attached, state, is_free, put_tokens, set_token, at_limit}
use Rattle.domain.specs.Events.{tokens_full, Event, Outcome, ends, sends, stays}
use Rattle.domain.specs.Tokens.{Turned, fails, turns, grab, inhibit, status}
use Rattle.domain.specs.Effects.{Effect, from, within}
use Rattle.domain.specs.Passing.{turn}
use Rattle.domain.specs.History.{History, Word, full, other, code, same, is, sign, told, reading, home, busy, count, if_told}
use Rattle.domain.proofs.invariant.Sound.{Sound}
use Rattle.domain.proofs.holders.Agrees.{Agrees, seen}
use Rattle.domain.proofs.holders.Claimed.{busy_state, tokens_counted}

-- the result that the confirm has
abbrev pub result : Turned → ℕ
result (fails n) = n
result (turns h) = 0

-- too-many-tokens is said of a free token at the limit, and of no other
pub grab_full : (limit : Bool) (h : Holding) (i : ℕ) → eqb (result (grab limit h i)) too_many_tokens ≡ (is_free h && limit)
unfolding grab is_free
grab_full true Free i = refl
grab_full false Free i = refl
grab_full limit (Grabbed x) i = refl
grab_full limit (Inhibited us) i = go (eqb us (only seats i))
  where
    go : (b : Bool) → eqb (result (if b then turns (Grabbed i) else fails token_not_available)) too_many_tokens ≡ false
    go true = refl
    go false = refl
grab_full limit (Giving x y) i = refl
grab_full limit (Given y) i = refl

pub inhibit_full : (limit : Bool) (h : Holding) (i : ℕ) → eqb (result (inhibit limit h i)) too_many_tokens ≡ (is_free h && limit)
unfolding inhibit is_free
inhibit_full true Free i = refl
inhibit_full false Free i = refl
inhibit_full limit (Grabbed x) i = go (eqb x i)
  where
    go : (b : Bool) → eqb (result (if b then turns (Inhibited (only seats i)) else fails token_not_available)) too_many_tokens ≡ false
    go true = refl
    go false = refl
inhibit_full limit (Inhibited us) i = refl
inhibit_full limit (Giving x y) i = refl
inhibit_full limit (Given y) i = refl

-- what was sent, where the answer was 0
all_sent : (d : Domain) (room : ℕ) (e : Domain) (rs : List Sent) → (sends d room 0 e rs).reply ≡ 0 → (sends d room 0 e rs).sent ≡ rs
unfolding sends
all_sent d room e rs = go (ltb room (length (records rs)))
  where
    go : (b : Bool) → (if b then stays d 9 else record { reply = 0; domain = e; sent = rs }).reply ≡ 0 → (if b then stays d 9 else record { reply = 0; domain = e; sent = rs }).sent ≡ rs
    go true q = let z : ◌≡◌ {A = ℕ} 9 0 = q in absurd (omega (arith, z))
    go false q = refl

module _ (h : History) (d : Domain) (g : Sound d) (a : Agrees h d.users d.tokens) (ev : Event) (p u k room : ℕ)
    (w : Word) (plain : same full w ≡ false) (confirm : ℕ → ℕ → ℕ → ℕ → Message) (means : (n s : ℕ) → reading (confirm n u k s) ≡ sign (if_told n w) (u ∷ []) k) where
  -- some record says too-many-tokens of u and k
  abbrev pub tells_of : List Sent → Bool
  tells_of rs = told (record { event = ev; reply = 0; sent = rs }) full u k

  abbrev pub tells : Outcome → Bool
  tells o = tells_of o.sent

  -- the outcome of a request about tokens
  abbrev pub after : Effect Tokens → Outcome
  after x = ends d room (within (put_tokens d) x)

  one_told : (n s : ℕ) → tells_of (to p (confirm n u k s) ∷ []) ≡ eqb n too_many_tokens
  unfolding told any is member same code
  one_told n s = rw (means n s, eq-eqb k k refl, eq-eqb u u refl) (or-false (same full (if_told n w)) ∙ go (eqb n successful) refl (eqb n too_many_tokens) refl)
    where
      go : (b : Bool) → eqb n successful ≡ b → (c : Bool) → eqb n too_many_tokens ≡ c → same full (if b then w else if c then full else other) ≡ c
      go true q c r = plain ∙ sym (sym r ∙ ap (λ (m : ℕ). eqb m too_many_tokens) (eqb-true n successful q))
      go false q true r = refl
      go false q false r = refl

  turn_told : (i : ℕ) (t : Turned) → (after (turn d.tokens p u i k confirm t)).reply ≡ 0 → tells (after (turn d.tokens p u i k confirm t)) ≡ eqb (result t) too_many_tokens
  unfolding ends turn within
  turn_told i (fails n) q = ap tells_of (all_sent d room (put_tokens d d.tokens) _ q) ∙ one_told n (status (state d.tokens k) i)
  turn_told i (turns s) q = ap tells_of (all_sent d room (put_tokens d (set_token d.tokens k s)) _ q) ∙ one_told successful (status s i)

  -- the initiator is attached
  begun : (f : (ℕ → Effect Tokens)) → home h u ≡ some p → (i : ℕ) × (from d.users p u f ≡ f i)
  unfolding from attached
  begun f q = go (find d.users.ids u) refl (sym (a.homes u) ∙ q)
    where
      go : (x : Place) → find d.users.ids u ≡ x → seen (find d.users.ids u) none (λ i. some (link d.users i)) ≡ some p → (i : ℕ) × (from d.users p u f ≡ f i)
      go (At i) e r = (i, rw (e, from, attached, eq-eqb (link d.users i) p (some-injective (link d.users i) p (rw e at r))))
      go Nowhere e r = absurd (none≢some (rw e at r))

  -- told too-many-tokens exactly where a free token is asked for at the limit
  pub asked_told : (f : (ℕ → Turned)) → ((i : ℕ) → eqb (result (f i)) too_many_tokens ≡ (is_free (state d.tokens k) && tokens_full d)) → home h u ≡ some p → (b : Bool)
      → (if b then stays d 2 else after (from d.users p u λ i. turn d.tokens p u i k confirm (f i))).reply ≡ 0
      → tells (if b then stays d 2 else after (from d.users p u λ i. turn d.tokens p u i k confirm (f i))) ≡ (not (busy h k) && leb d.limits.tokens (count h))
  unfolding tokens_full at_limit
  asked_told f law on true r = let z : ◌≡◌ {A = ℕ} 2 0 = r in absurd (omega (arith, z))
  asked_told f law on false r =
      let b = begun (λ i. turn d.tokens p u i k confirm (f i)) on in
      ap (λ (x : Effect Tokens). tells (after x)) b.1
      ∙ turn_told b.0 (f b.0) (sym (ap (λ (x : Effect Tokens). (after x).reply) b.1) ∙ r)
      ∙ law b.0 ∙ rw (busy_state h d g a k, tokens_counted h d g a, not-not (is_free (state d.tokens k)))
