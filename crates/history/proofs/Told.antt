-- What a request that needs no more than its own fields sends is read back: results, statuses and ids are in their ranges. Assumes nothing.
use Rattle.std.specs.Prelude.{if◌then◌else◌}
use mathlib.Core.Path.{◌≡◌, refl}
use mathlib.Core.Bool.{Bool, true, false, ◌||◌}
use mathlib.Core.List.{List}
use mathlib.Core.Option.{none, some}
use Prim.Native.Nat.{ℕ, zero, suc, ◌≤◌, zero-le}
use native.Mathlib.Omega.{arith}
use lib.Dec.{eqb, ltb}
use Rattle.cols_spec.specs.Sets.{any, has, with, only, seats}
use Rattle.cols_spec.specs.Places.{Place, At, Nowhere, find}
use Rattle.codec_table.specs.Named.{CDin, TVcf, TPin}
use Rattle.codec_table.proofs.NamedLaws.{User, Channel, Token}
use Rattle.out_messages.specs.declared.Confirm.{Confirm}
use Rattle.out_messages.specs.declared.Confirm.TheVariants.{Grab, Inhibit, Give, Release}
use Rattle.out_messages.specs.Confirms.{confirm}
use Rattle.domain.specs.declared.channel.Kind.{Kind}
use Rattle.domain.specs.declared.channel.Kind.TheVariants.{Static, User as UserId, Private, Assigned}
use Rattle.domain.specs.declared.token.Holding.{Holding}
use Rattle.domain.specs.declared.token.Holding.TheVariants.{Free, Grabbed, Inhibited, Giving, Given}
use Rattle.domain.specs.Cells.{kind}
use Rattle.domain.specs.Tables.{Users as Names, Channels, Tokens, channel, hosts, state}
use Rattle.domain.specs.Tokens.{Turned, fails, turns, status, grab, inhibit, release, grabbed_by, party}
use Rattle.domain.specs.Effects.{Effect, ignored, done, from, within}
use Rattle.domain.specs.Channels.{attach, may, join_at, join_new, join, joined, leave_channels, convene, owned, manages, disband}
use Rattle.domain.specs.Passing.{turn, take_token, share_token, drop_token, offer, please, test}
use Rattle.domain.proofs.invariant.From.{from_by}
use Rattle.history.proofs.ReadBack.{Readable, Readables}
use Rattle.history.proofs.Readables.{confirm_readable, TVin_readable, TPin_readable, TTcf_readable, CDin_readable, AUcf_readable, CJcf_readable, CCcf_readable, all_told}

-- ---- what is said of effects

-- all that is sent is read back
abbrev pub Told : {A : Type 0} → Effect A → Type 0
Told ignored = Unit {0}
Told (done a rs) = Readables rs

module _ {A : Type 0} where
  -- one of two
  pub told_either : (b : Bool) (x y : Effect A) → Told x → Told y → Told (if b then x else y)
  told_either true x y h k = h
  told_either false x y h k = k

  -- at a place or nowhere
  told_place : (q : Place) (f : (ℕ → Effect A)) (x : Effect A) → ((i : ℕ) → q ≡ At i → Told (f i)) → Told x
      → Told {A = A} (elim q as (λ (_ : Place). Effect A) [ At i ↦ f i | Nowhere ↦ x ])
  told_place (At i) f x h k = h i refl
  told_place Nowhere f x h k = k

  -- by who is attached
  pub told_from : (us : Names) (p u : ℕ) (f : (ℕ → Effect A)) → ((i : ℕ) → Told (f i)) → Told (from us p u f)
  told_from us p u f h = from_by Told tt us p u f (λ i e l. h i)

-- put back into the domain
pub told_within : {A B : Type 0} (put : (A → B)) (x : Effect A) → Told x → Told (within put x)
unfolding within
told_within put ignored h = tt
told_within put (done a rs) h = h

-- ---- results and statuses

-- one of two
either_le : (m : ℕ) (b : Bool) (x y : ℕ) → x ≤ m → y ≤ m → (if b then x else y) ≤ m
either_le m true x y h k = h
either_le m false x y h k = k

-- a status has three bits
pub status_le : (h : Holding) (u : ℕ) → status h u ≤ 7
unfolding status
status_le Free u = omega arith
status_le (Grabbed g) u = either_le 7 (eqb g u) _ _ (omega arith) (omega arith)
status_le (Inhibited us) u = either_le 7 (has us u) _ _ (omega arith) (omega arith)
status_le (Giving g r) u = either_le 7 (eqb g u) _ _ (omega arith) (either_le 7 (eqb r u) _ _ (omega arith) (omega arith))
status_le (Given r) u = either_le 7 (eqb r u) _ _ (omega arith) (omega arith)

-- the result of a CJrq
may_le : (k : Kind) (c u i : ℕ) → may k c u i ≤ 15
unfolding may
may_le Static c u i = omega arith
may_le UserId c u i = either_le 15 (eqb c u) _ _ (omega arith) (omega arith)
may_le (Private m adm) c u i = either_le 15 (eqb m i || has adm i) _ _ (omega arith) (omega arith)
may_le Assigned c u i = omega arith

-- a result has four bits
abbrev Small : Turned → Type 0
Small (fails n) = n ≤ 15
Small (turns h) = Unit {0}

-- one of two
either_small : (b : Bool) (x y : Turned) → Small x → Small y → Small (if b then x else y)
either_small true x y h k = h
either_small false x y h k = k

-- TGrq
grab_small : (full : Bool) (h : Holding) (u : ℕ) → Small (grab full h u)
unfolding grab
grab_small full Free u = either_small full _ _ (omega arith) tt
grab_small full (Grabbed g) u = omega arith
grab_small full (Inhibited us) u = either_small (eqb us (only seats u)) _ _ tt (omega arith)
grab_small full (Giving g r) u = omega arith
grab_small full (Given r) u = omega arith

-- TIrq
inhibit_small : (full : Bool) (h : Holding) (u : ℕ) → Small (inhibit full h u)
unfolding inhibit
inhibit_small full Free u = either_small full _ _ (omega arith) tt
inhibit_small full (Grabbed g) u = either_small (eqb g u) _ _ tt (omega arith)
inhibit_small full (Inhibited us) u = tt
inhibit_small full (Giving g r) u = omega arith
inhibit_small full (Given r) u = omega arith

-- TRrq
release_small : (h : Holding) (u : ℕ) → Small (release h u)
unfolding release
release_small Free u = omega arith
release_small (Grabbed g) u = either_small (eqb g u) _ _ tt (omega arith)
release_small (Inhibited us) u = either_small (has us u) _ _ tt (omega arith)
release_small (Giving g r) u = either_small (eqb g u) _ _ tt (omega arith)
release_small (Given r) u = omega arith

-- ---- requests about channels
module _ (new : ℕ) (fresh_id : User new) where
  -- an id for a user is one for a channel
  new_channel : Channel new
  new_channel = record { least = zero-le; most = fresh_id.most }

  -- AUrq: AUcf
  pub attach_told : (f g : Bool) (us : Names) (cs : Channels) (p : ℕ) → Told (attach new f g us cs p)
  unfolding attach
  attach_told f g us cs p =
      told_either f _ _ (AUcf_readable _ (omega arith) none tt, tt)
      (told_either g _ _ (AUcf_readable _ (omega arith) none tt, tt) (AUcf_readable _ (omega arith) (some new) fresh_id, tt))

  module _ (full : Bool) (us : Names) (cs : Channels) (p u : ℕ) (user : User u) where
    -- CCrq: CCcf
    pub convene_told : Told (convene new full us cs p u)
    unfolding convene
    convene_told = told_from us p u _ λ i.
        told_either full _ _ (CCcf_readable _ (omega arith) u user none tt, tt) (CCcf_readable _ (omega arith) u user (some new) fresh_id, tt)

    module _ (c : ℕ) (asked : Channel c) where
      -- CJrq for a channel in use: CJcf
      join_at_told : (j n : ℕ) → n ≤ 15 → Told (join_at cs p u c j n)
      unfolding join_at
      join_at_told j zero h = (CJcf_readable _ (omega arith) u c user asked (some c) asked, tt)
      join_at_told j (suc n) h = (CJcf_readable (suc n) h u c user asked none tt, tt)

      -- for one not in use
      join_new_told : Told (join_new new full cs p u c)
      unfolding join_new
      join_new_told =
          told_either (ltb 1000 c) _ _ (CJcf_readable _ (omega arith) u c user asked none tt, tt)
          (told_either full _ _ (CJcf_readable _ (omega arith) u c user asked none tt, tt)
          (told_either (eqb c 0) _ _ (CJcf_readable _ (omega arith) u c user asked (some new) new_channel, tt)
          (CJcf_readable _ (omega arith) u c user asked (some c) asked, tt)))

      -- for either
      pub join_told : Told (join new full us cs p u c)
      unfolding join
      join_told = told_from us p u _ λ i.
          told_place (find cs.ids c) (λ j. join_at cs p u c j (may (kind (channel cs j)) c u i)) (join_new new full cs p u c)
          (λ j e. join_at_told j (may (kind (channel cs j)) c u i) (may_le (kind (channel cs j)) c u i)) join_new_told

-- CLrq: nothing
pub leave_channels_told : (cs : Channels) (p : ℕ) (ids : List ℕ) → Told (leave_channels cs p ids)
unfolding leave_channels
leave_channels_told cs p ids = told_either (any (joined cs p) ids) _ _ tt tt

-- by the manager alone
owned_told : (k : Kind) (i : ℕ) (f : (ℕ → ℕ → Effect Channels)) → ((m adm : ℕ) → Told (f m adm)) → Told (owned k i f)
unfolding owned
owned_told Static i f h = tt
owned_told UserId i f h = tt
owned_told (Private m adm) i f h = told_either (eqb m i) (f m adm) ignored (h m adm) tt
owned_told Assigned i f h = tt

-- of a private channel
pub manages_told : (us : Names) (cs : Channels) (p u c : ℕ) (f : (ℕ → ℕ → ℕ → Effect Channels)) → ((j m adm : ℕ) → Told (f j m adm)) → Told (manages us cs p u c f)
unfolding manages
manages_told us cs p u c f h = told_from us p u _ λ i.
    told_place (find cs.ids c) (λ j. owned (kind (channel cs j)) i (f j)) ignored (λ j e. owned_told (kind (channel cs j)) i (f j) (h j)) tt

-- CDrq: CDin
pub disband_told : (us : Names) (cs : Channels) (p u c : ℕ) → User c → Told (disband us cs p u c)
unfolding disband
disband_told us cs p u c h = manages_told us cs p u c _ λ j m adm. all_told (hosts us (with seats adm m)) (CDin c) (CDin_readable c h)

-- ---- a confirm of a token's request
module _ (us : Names) (ts : Tokens) (p u k : ℕ) (user : User u) (token : Token k) where
  -- with the result and the status after it
  turn_told : (i : ℕ) (c : Confirm) (t : Turned) → Small t → Told (turn ts p u i k (confirm c) t)
  unfolding turn
  turn_told i c (fails n) h = (confirm_readable user token c n _ h (status_le (state ts k) i), tt)
  turn_told i c (turns x) h = (confirm_readable user token c _ _ (omega arith) (status_le x i), tt)

  -- TGrq: TGcf
  pub take_told : (full : Bool) → Told (take_token full us ts p u k)
  unfolding take_token
  take_told full = told_from us p u _ λ i. turn_told i Grab (grab full (state ts k) i) (grab_small full (state ts k) i)

  -- TIrq: TIcf
  pub share_told : (full : Bool) → Told (share_token full us ts p u k)
  unfolding share_token
  share_told full = told_from us p u _ λ i. turn_told i Inhibit (inhibit full (state ts k) i) (inhibit_small full (state ts k) i)

  -- TRrq: TRcf
  pub drop_told : Told (drop_token us ts p u k)
  unfolding drop_token
  drop_told = told_from us p u _ λ i. turn_told i Release (release (state ts k) i) (release_small (state ts k) i)

  -- TVcf that refuses
  give_told : (n i : ℕ) → n ≤ 15 → Readable (TVcf n u k (status (state ts k) i))
  give_told n i h = confirm_readable user token Give n _ h (status_le (state ts k) i)

  -- TVrq: TVin, or TVcf
  pub offer_told : (r : ℕ) → User r → Told (offer us ts p u k r)
  unfolding offer
  offer_told r h = told_from us p u _ λ i.
      told_either (grabbed_by (state ts k) i) _ _
      (told_place (find us.ids r) _ _ (λ j e. (TVin_readable user token r h, tt)) (give_told _ i (omega arith), tt))
      (give_told _ i (omega arith), tt)

  -- TPrq: TPin
  pub please_told : Told (please us ts p u k)
  unfolding please
  please_told = told_from us p u _ λ i. all_told (hosts us (party (state ts k))) (TPin u k) (TPin_readable user token)

  -- TTrq: TTcf
  pub test_told : Told (test us ts p u k)
  unfolding test
  test_told = told_from us p u _ λ i. (TTcf_readable user token _ (status_le (state ts k) i), tt)
