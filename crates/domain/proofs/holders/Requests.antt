-- TGrq, TIrq, TRrq: what a request makes of a token's state is what history hears of it. Assumes nothing.
use Rattle.std.specs.Prelude.{if◌then◌else◌}
use mathlib.Core.Path.{◌≡◌, refl, sym, ap, ◌∙◌}
use mathlib.Core.Bool.{Bool, true, false, not, ◌&&◌, ◌||◌, and-false, or-false}
use mathlib.Core.List.{[], ◌∷◌}
use mathlib.Core.Option.{Option, some}
use Prim.Native.Nat.{ℕ, zero, suc, ◌<◌, ◌≤◌, zero-le}
use native.Mathlib.Omega.{arith}
use lib.Dec.{eqb, eqb-suc-zero}
use borrow.Author.Tests.{eqb-true}
use Rattle.cols_spec.specs.Places.{At, find}
use Rattle.cols_spec.specs.Sets.{has, without, only, seats, all, any, member}
use Rattle.codec_table.specs.Named.{Message, TGrq, TGcf, TIrq, TIcf, TRrq, TRcf, token_not_available, token_not_possessed, too_many_tokens}
use Rattle.out_records.specs.Records.{to}
use Rattle.cols_spec.proofs.Digits.{has_high, has_with, has_only, has_without}
use Rattle.domain.specs.declared.token.Holding.{Holding}
use Rattle.domain.specs.declared.token.Holding.TheVariants.{Free, Grabbed, Inhibited, Giving, Given}
use Rattle.domain.specs.Tables.{Domain, state, set_token, put_tokens}
use Rattle.domain.specs.Events.{tokens_full, Event, hears, reads}
use Rattle.domain.specs.Tokens.{Turned, fails, turns, grab, inhibit, release, inhibited, status}
use Rattle.domain.specs.Effects.{done, from, within}
use Rattle.domain.specs.Passing.{turn, take_token, share_token, drop_token}
use Rattle.domain.specs.History.{Entry, History, ◌▹◌, Word, attaches, grabs, inhibits, yields, full, other, code, same, is, sign, unread, reading, asks, told, said}
use Rattle.domain.specs.History.{leaves, arrives, home, if_done, if_told, Gain, nothing, by_grab, by_inhibit}
use Rattle.domain.proofs.invariant.Sound.{Seated, Sound}
use Rattle.domain.proofs.invariant.Held.{Right, grab_right, inhibit_right, release_right, state_held}
use Rattle.domain.proofs.holders.Known.{found_seated, state_then}
use Rattle.domain.proofs.holders.Heard.{mute, mutes, idle, idle_unread, said_idle, leaves_idle}
use Rattle.domain.proofs.holders.Agrees.{Agrees, Fine, calm, from_fine, stand, shifts, token_agrees}

-- ---- one token

-- a request with the word w by the user at place i is refused, or turns the state into one that stands to each place as history hears
abbrev pub Kept : (w : Word) (h : Holding) (i : ℕ) → Turned → Type 0
Kept w h i (fails n) = eqb n 0 ≡ false
Kept w h i (turns g) = (j : ℕ) → j < 64 → shifts w other (eqb i j) (eqb i j) (stand h j) ≡ stand g j

-- where the user's own place, and no other, changes from the gain x to y; c is whether an offer is open there
own_place : (w : Word) (x y : Gain) (c : Bool) → shifts w other true true (x, c) ≡ (y, c) → (b : Bool) → shifts w other b b (if b then x else nothing, c) ≡ (if b then y else nothing, c)
own_place w x y c law true = law
own_place w x y c law false = refl

-- one that held nothing, and one that holds nothing then
no_gain : (b : Bool) → ◌≡◌ {A = Gain} (if b then nothing else nothing) nothing
no_gain true = refl
no_gain false = refl

-- TGrq
pub grab_kept : (limit : Bool) (h : Holding) (i : ℕ) → Kept grabs h i (grab limit h i)
unfolding grab stand same code
grab_kept true Free i = refl
grab_kept false Free i = λ j l. rw (no_gain (eqb i j)) at (own_place grabs nothing by_grab false refl (eqb i j))
grab_kept limit (Grabbed g) i = refl
grab_kept limit (Inhibited us) i = go (eqb us (only seats i)) refl
  where
    same_set : (j : ℕ) → j < 64 → eqb us (only seats i) ≡ true → has us j ≡ eqb i j
    same_set j l e = ap (λ (m : ℕ). has m j) (eqb-true us (only seats i) e) ∙ has_only 64 i j l

    go : (b : Bool) → eqb us (only seats i) ≡ b → Kept grabs (Inhibited us) i (if b then turns (Grabbed i) else fails token_not_available)
    go true e = λ j l. rw (same_set j l e) (own_place grabs by_inhibit by_grab false refl (eqb i j))
    go false e = refl
grab_kept limit (Giving g r) i = refl
grab_kept limit (Given r) i = refl

-- TIrq
pub inhibit_kept : (limit : Bool) (h : Holding) (i : ℕ) → Kept inhibits h i (inhibit limit h i)
unfolding inhibit stand same code
inhibit_kept true Free i = refl
inhibit_kept false Free i = λ j l. rw (has_only 64 i j l) (rw (no_gain (eqb i j)) at (own_place inhibits nothing by_inhibit false refl (eqb i j)))
inhibit_kept limit (Grabbed g) i = go (eqb g i) refl
  where
    go : (b : Bool) → eqb g i ≡ b → Kept inhibits (Grabbed g) i (if b then turns (Inhibited (only seats i)) else fails token_not_available)
    go true e = λ j l. rw (has_only 64 i j l, eqb-true g i e) (own_place inhibits by_grab by_inhibit false refl (eqb i j))
    go false e = refl
inhibit_kept limit (Inhibited us) i = λ j l. rw (has_with 64 i j l us) (go (has us j) (eqb i j))
  where
    go : (b c : Bool) → shifts inhibits other c c (if b then by_inhibit else nothing, false) ≡ (if b || c then by_inhibit else nothing, false)
    go true true = refl
    go true false = refl
    go false true = refl
    go false false = refl
inhibit_kept limit (Giving g r) i = refl
inhibit_kept limit (Given r) i = refl

-- nobody stands to a token that nobody inhibits
pub stand_inhibited : (m j : ℕ) → stand (inhibited m) j ≡ stand (Inhibited m) j
unfolding stand inhibited
stand_inhibited zero j = rw (has_high 0 0 j (omega arith) zero-le)
stand_inhibited (suc m) j = rw (eqb-suc-zero m)

-- the grabber holds it no longer
grab_gone : (i j : ℕ) (c : Bool) → shifts yields other (eqb i j) (eqb i j) (if eqb i j then by_grab else nothing, c) ≡ (nothing, c)
unfolding same code
grab_gone i j c = rw (no_gain (eqb i j)) at (own_place yields by_grab nothing c refl (eqb i j))

-- TRrq
pub release_kept : (h : Holding) (i : ℕ) → Kept yields h i (release h i)
unfolding release stand same code
release_kept Free i = refl
release_kept (Grabbed g) i = go (eqb g i) refl
  where
    go : (b : Bool) → eqb g i ≡ b → Kept yields (Grabbed g) i (if b then turns Free else fails token_not_possessed)
    go true e = λ j l. rw (eqb-true g i e) (grab_gone i j false)
    go false e = refl
release_kept (Inhibited us) i = go (has us i) refl
  where
    each_place : (b c : Bool) → shifts yields other c c (if b then by_inhibit else nothing, false) ≡ (if b && not c then by_inhibit else nothing, false)
    each_place true true = refl
    each_place true false = refl
    each_place false true = refl
    each_place false false = refl

    go : (b : Bool) → has us i ≡ b → Kept yields (Inhibited us) i (if b then turns (inhibited (without seats us i)) else fails token_not_possessed)
    go true e = λ j l. rw (stand_inhibited (without seats us i) j, has_without 64 i j l us) (each_place (has us j) (eqb i j))
    go false e = refl
release_kept (Giving g r) i = go (eqb g i) refl
  where
    go : (b : Bool) → eqb g i ≡ b → Kept yields (Giving g r) i (if b then turns (Given r) else fails token_not_possessed)
    go true e = λ j l. rw (eqb-true g i e) (grab_gone i j (eqb r j))
    go false e = refl
release_kept (Given r) i = refl

-- ---- an entry with one record

module _ (ev : Event) (p : ℕ) (m : Message) (w : Word) (x k₀ : ℕ) (means : reading m ≡ sign w (x ∷ []) k₀) where
  -- its record says w of the user x and the token k₀, and nothing else
  abbrev pub one : Entry
  one = record { event = ev; reply = 0; sent = to p m ∷ [] }

  pub told_one : (v : Word) (u k : ℕ) → told one v u k ≡ (eqb k k₀ && eqb u x && same v w)
  unfolding told any is member
  told_one v u k = rw means (or-false (eqb k k₀ && (eqb u x || false) && same v w) ∙ ap (λ (b : Bool). eqb k k₀ && b && same v w) (or-false (eqb u x)))

  pub home_one : (h : History) (u : ℕ) → leaves one (home h u) u ≡ false → same attaches w ≡ false → home (one ▹ h) u ≡ home h u
  unfolding home arrives is
  home_one h u l n = rw (l, means, n) (ap (λ (b : Bool). if b then some p else home h u) (and-false (eqb 0 k₀ && member u (x ∷ []))))

-- a word that is never asked for is not heard
pub unsaid : (e : Entry) → idle e ≡ true → (w : Word) → same w other ≡ false → (at : Option ℕ) (u k y k₀ : ℕ) → said e at w u k ≡ (eqb k k₀ && eqb u y && same w other)
unsaid e q w n at u k y k₀ = said_idle e q at w u k n ∙ sym (ap (λ (b : Bool). eqb k k₀ && eqb u y && b) n ∙ and-false (eqb k k₀ && eqb u y))

-- ---- the event

module _ (h : History) (d : Domain) (g : Sound d) (a : Agrees h d.users d.tokens) (ev : Event) (quiet : asks ev ≡ unread) where
  -- a record of the word w for a user x, by an event that is not read: token k comes to the state `now`
  pub written : (p k x c y i : ℕ) (m : Message) (w : Word) (now : Holding)
      → reading m ≡ sign w (x ∷ []) k → same attaches w ≡ false → 1 ≤ k
      → find d.users.ids x ≡ At c → find d.users.ids y ≡ At i
      → ((j : ℕ) → j < 64 → shifts w other (eqb c j) (eqb i j) (stand (state d.tokens k) j) ≡ stand now j)
      → Right d.users (tokens_full d) (state d.tokens k) (turns now)
      → Fine h d ev (done (put_tokens d (set_token d.tokens k now)) (to p m ∷ []))
  written p k x c y i m w now means n kz theirs mine law right = record {
    agrees = token_agrees h d.users d.tokens a (omega (arith, g.users_are.ids_size)) e (set_token d.tokens k now) k x y w other (state d.tokens k) now
        refl (state_then d g k now kz right.0 right.1) c i theirs mine here
        (λ u. home_one ev p m w x k means h u (here u) n)
        (λ v r u j. told_one ev p m w x k means v u j)
        (λ v r u j. unsaid e q v r (home h u) u j y k) law;
    limits = refl;
  }
    where
      e : Entry
      e = record { event = ev; reply = 0; sent = to p m ∷ [] }

      q : idle e ≡ true
      q = idle_unread e quiet

      here : (u : ℕ) → leaves e (home h u) u ≡ false
      here u = leaves_idle e q (home h u) u

  -- a request by u whose confirm says w where it succeeds, and nothing where it does not
  pub turn_fine : (p u k : ℕ) (confirm : (ℕ → ℕ → ℕ → ℕ → Message)) (w : Word)
      → ((s : ℕ) → reading (confirm 0 u k s) ≡ sign w (u ∷ []) k) → ((n s : ℕ) → eqb n 0 ≡ false → mutes (reading (confirm n u k s)).word ≡ true)
      → same attaches w ≡ false → 1 ≤ k
      → (t : (ℕ → Turned)) → ((i : ℕ) → Seated d.users i → Right d.users (tokens_full d) (state d.tokens k) (t i)) → ((i : ℕ) → Kept w (state d.tokens k) i (t i))
      → Fine h d ev (within (put_tokens d) (from d.users p u λ i. turn d.tokens p u i k confirm (t i)))
  unfolding turn all mute within
  turn_fine p u k confirm w won lost n kz t right kept = from_fine h d a ev (put_tokens d) p u _ (λ i mine on. go i mine (t i) (right i (found_seated d.users u i mine)) (kept i))
    where
      go : (i : ℕ) → find d.users.ids u ≡ At i → (t : Turned) → Right d.users (tokens_full d) (state d.tokens k) t → Kept w (state d.tokens k) i t
          → Fine h d ev (within (put_tokens d) (turn d.tokens p u i k confirm t))
      go i mine (fails r) x f = calm h d a ev quiet (put_tokens d d.tokens) _ refl refl refl (rw (lost r (status (state d.tokens k) i) f))
      go i mine (turns now) x f = written p k u i u i (confirm 0 u k (status now i)) w now (won (status now i)) n kz mine mine f x

-- the words of the confirms
pub mute_done : (n : ℕ) (w : Word) → eqb n 0 ≡ false → mutes (if_done n w) ≡ true
unfolding mutes same code
mute_done n w q = rw q

pub mute_told : (n : ℕ) (w : Word) → eqb n 0 ≡ false → mutes (if_told n w) ≡ true
unfolding mutes same code
mute_told n w q = rw q (go (eqb n too_many_tokens))
  where
    go : (b : Bool) → mutes (if b then full else other) ≡ true
    go true = refl
    go false = refl

-- ---- the requests

module _ (h : History) (d : Domain) (g : Sound d) (a : Agrees h d.users d.tokens) (p u k : ℕ) (kz : 1 ≤ k) where
  -- the state of the token before
  abbrev was : Holding
  was = state d.tokens k

  pub take_fine : Fine h d (hears p (reads (TGrq u k))) (within (put_tokens d) (take_token (tokens_full d) d.users d.tokens p u k))
  unfolding take_token asks reading same code
  take_fine =
      turn_fine h d g a _ refl p u k TGcf grabs (λ s. refl) (λ n s q. mute_told n grabs q) refl kz _
      (λ i s. grab_right d.users g.users_are.ids_size i s (tokens_full d) was (state_held d g k)) (grab_kept (tokens_full d) was)

  pub share_fine : Fine h d (hears p (reads (TIrq u k))) (within (put_tokens d) (share_token (tokens_full d) d.users d.tokens p u k))
  unfolding share_token asks reading same code
  share_fine =
      turn_fine h d g a _ refl p u k TIcf inhibits (λ s. refl) (λ n s q. mute_told n inhibits q) refl kz _
      (λ i s. inhibit_right d.users g.users_are.ids_size i s (tokens_full d) was (state_held d g k)) (inhibit_kept (tokens_full d) was)

  pub drop_fine : Fine h d (hears p (reads (TRrq u k))) (within (put_tokens d) (drop_token d.users d.tokens p u k))
  unfolding drop_token asks reading same code
  drop_fine =
      turn_fine h d g a _ refl p u k TRcf yields (λ s. refl) (λ n s q. mute_done n yields q) refl kz _
      (λ i s. release_right d.users g.users_are.ids_size i s (tokens_full d) was (state_held d g k)) (release_kept was)
