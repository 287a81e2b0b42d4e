-- Who manages a private channel, and CCrq and CDrq by cases. Assumes nothing.
use Rattle.std.specs.Prelude.{if◌then◌else◌}
use mathlib.Core.Logic.{◌⊎◌, inl, inr}
use mathlib.Core.Path.{◌≡◌, refl, sym, ap, ◌∙◌}
use mathlib.Core.Bool.{Bool, true, false}
use mathlib.Core.List.{List, [], ◌∷◌}
use mathlib.Core.Option.{none, some}
use Prim.Native.Nat.{ℕ}
use native.Mathlib.Omega.{arith}
use lib.Dec.{eqb}
use lib.ListN.{get_or}
use Rattle.cols_spec.specs.Sets.{with, seats}
use Rattle.cols_spec.specs.Places.{Place, At, Nowhere, find}
use Rattle.codec_table.specs.Named.{CCrq, CCcf, CDrq, CDin, successful, too_many_channels}
use Rattle.out_records.specs.Records.{to, tell}
use Rattle.domain.specs.declared.channel.Kind.{Kind}
use Rattle.domain.specs.declared.channel.Kind.TheVariants.{Static, User, Private, Assigned}
use Rattle.domain.specs.declared.channel.Channel.{Channel}
use Rattle.domain.specs.Cells.{no_channel, kind, channel_of}
use Rattle.domain.specs.Tables.{Users, Channels, Domain, attached, hosts, channel, add_channel, end_channel, put_channels, at_limit, grant}
use Rattle.domain.specs.Effects.{Effect, ignored, done, settled, delivers, settle}
use Rattle.domain.specs.Channels.{convene, owned, manages, disband}
use Rattle.domain.specs.Events.{act, channels_full}
use Rattle.domain.proofs.Requesting.{on_channels}
use Rattle.serve_reply.proofs.Sending.{Told, did_nothing, did_refuse, did}
use Rattle.serve_reply.proofs.Initiators.{from_at, from_nobody}

-- ---- CCrq
module _ (d : Domain) (p u : ℕ) (out : List ℕ) where
  pub convene_asked : {n l : ℕ} {o : List ℕ} {cs : Channels}
      → settled n l cs o ≡ settle d.channels (convene (grant d.channels) (at_limit d.limits.channels d.channels.ids) d.users d.channels p u) out
      → settled n l (put_channels d cs) o ≡ settle d (act (grant d.channels) d p (CCrq u)) out
  unfolding act channels_full
  convene_asked e = on_channels d.limits d.links d.users d.channels d.tokens _ p (CCrq u) out _ e refl

module _ (new : ℕ) (us : Users) (cs : Channels) (p u : ℕ) (out : List ℕ) where
  pub convene_nobody : (full : Bool) → attached us p u ≡ Nowhere → settled 1 0 cs out ≡ settle cs (convene new full us cs p u) out
  unfolding convene settle
  convene_nobody full e = rw (from_nobody us p u _ e) refl

  module _ (i : ℕ) (at : attached us p u ≡ At i) (n l : ℕ) (o : List ℕ) where
    pub convene_full : Told p (CCcf too_many_channels u none) n l out o → settled n l cs o ≡ settle cs (convene new true us cs p u) out
    unfolding convene
    convene_full e = did_nothing _ _ e cs ∙ ap (λ (x : Effect Channels). settle cs x out) (sym (from_at us p u _ i at))

    module _ (e : Told p (CCcf successful u (some new)) n l out o) where
      abbrev made : Channels
      made = add_channel cs new (channel_of (Private i 0) 0)

      makes : done made (to p (CCcf successful u (some new)) ∷ []) ≡ convene new false us cs p u
      unfolding convene
      makes = sym (from_at us p u _ i at)

      pub convene_refused : eqb n 9 ≡ true → settled n l cs o ≡ settle cs (convene new false us cs p u) out
      convene_refused h = did_refuse _ _ e cs made h ∙ ap (λ (x : Effect Channels). settle cs x out) makes

      pub convene_done : eqb n 9 ≡ false → (cs' : Channels) (ch : Channel) → cs' ≡ add_channel cs new ch → ch ≡ channel_of (Private i 0) 0
          → settled n l cs' o ≡ settle cs (convene new false us cs p u) out
      convene_done h cs' ch x y = did _ _ e cs cs' made (x ∙ ap (add_channel cs new) y) h ∙ ap (λ (x : Effect Channels). settle cs x out) makes

-- ---- the manager
pub private_is : (ch : Channel) (m adm : ℕ) → kind ch ≡ Private m adm → kind ch ≡ Private ch.chair ch.guests
unfolding kind
private_is ch m adm e = go (eqb ch.role 2) (eqb ch.role 3) (eqb ch.role 4) e
  where
    read : (a b c : Bool) → Kind
    read a b c = if a then User else if b then Private ch.chair ch.guests else if c then Assigned else Static

    go : (a b c : Bool) → read a b c ≡ Private m adm → read a b c ≡ Private ch.chair ch.guests
    go true b c q = let z : ◌≡◌ {A = ℕ} 0 1 = cc in absurd (omega (arith, z))
    go false true c q = refl
    go false false true q = let z : ◌≡◌ {A = ℕ} 0 1 = cc in absurd (omega (arith, z))
    go false false false q = let z : ◌≡◌ {A = ℕ} 0 1 = cc in absurd (omega (arith, z))

module _ (ch : Channel) (i : ℕ) (e : kind ch ≡ Private ch.chair ch.guests) (act : ℕ → ℕ → Effect Channels) where
  pub owned_yes : eqb ch.chair i ≡ true → owned (kind ch) i act ≡ act ch.chair ch.guests
  unfolding owned
  owned_yes h = rw e (rw h refl)

  pub owned_no : eqb ch.chair i ≡ false → owned (kind ch) i act ≡ ignored
  unfolding owned
  owned_no h = rw e (rw h refl)

pub owned_other : (ch : Channel) (k : Kind) → k ≡ kind ch → (k ≡ Static) ⊎ ((k ≡ User) ⊎ (k ≡ Assigned)) → (i : ℕ) (act : ℕ → ℕ → Effect Channels) → owned (kind ch) i act ≡ ignored
unfolding owned
owned_other ch k x (inl e) i act = rw (sym x ∙ e) refl
owned_other ch k x (inr (inl e)) i act = rw (sym x ∙ e) refl
owned_other ch k x (inr (inr e)) i act = rw (sym x ∙ e) refl

module _ (us : Users) (cs : Channels) (p u c : ℕ) where
  pub manages_nobody : attached us p u ≡ Nowhere → (act : ℕ → ℕ → ℕ → Effect Channels) → manages us cs p u c act ≡ ignored
  unfolding manages
  manages_nobody e act = from_nobody us p u _ e

  module _ (i : ℕ) (e : attached us p u ≡ At i) (act : ℕ → ℕ → ℕ → Effect Channels) where
    abbrev after : Place → Effect Channels
    after w = elim w [ At j ↦ owned (kind (channel cs j)) i (act j) | Nowhere ↦ ignored ]

    goes : (w : Place) → find cs.ids c ≡ w → manages us cs p u c act ≡ after w
    unfolding manages
    goes w q = from_at us p u _ i e ∙ ap after q

    pub manages_nowhere : find cs.ids c ≡ Nowhere → manages us cs p u c act ≡ ignored
    manages_nowhere q = goes Nowhere q

    module _ (j : ℕ) (q : find cs.ids c ≡ At j) (ch : Channel) (x : ch ≡ get_or cs.cells j no_channel) where
      pub manages_yes : ((a : ℕ → ℕ → Effect Channels) → owned (kind ch) i a ≡ a ch.chair ch.guests)
          → manages us cs p u c act ≡ act j (channel cs j).chair (channel cs j).guests
      unfolding channel
      manages_yes h = goes (At j) q ∙ rw x at (h (act j))

      pub manages_no : ((a : ℕ → ℕ → Effect Channels) → owned (kind ch) i a ≡ ignored) → manages us cs p u c act ≡ ignored
      unfolding channel
      manages_no h = goes (At j) q ∙ rw x at (h (act j))

-- ---- CDrq
module _ (d : Domain) (p u c : ℕ) (out : List ℕ) where
  pub disband_asked : {n l : ℕ} {o : List ℕ} {cs : Channels}
      → settled n l cs o ≡ settle d.channels (disband d.users d.channels p u c) out
      → settled n l (put_channels d cs) o ≡ settle d (act (grant d.channels) d p (CDrq u c)) out
  unfolding act
  disband_asked e = on_channels d.limits d.links d.users d.channels d.tokens (grant d.channels) p (CDrq u c) out _ e refl

module _ (us : Users) (cs : Channels) (p u c : ℕ) (out : List ℕ) where
  pub disband_ignored : ((act : ℕ → ℕ → ℕ → Effect Channels) → manages us cs p u c act ≡ ignored) → settled 1 0 cs out ≡ settle cs (disband us cs p u c) out
  unfolding disband settle
  disband_ignored h = rw (h _) refl

  module _ (j : ℕ) (h : (act : ℕ → ℕ → ℕ → Effect Channels) → manages us cs p u c act ≡ act j (channel cs j).chair (channel cs j).guests)
      (ch : Channel) (x : ch ≡ get_or cs.cells j no_channel) (mask : ℕ) (y : mask ≡ hosts us (with seats ch.guests ch.chair))
      (n l : ℕ) (o : List ℕ) (e : settled {A = Unit {0}} n l tt o ≡ delivers 0 tt tt (tell mask (CDin c)) out) where
    ends : done (end_channel cs j) (tell mask (CDin c)) ≡ disband us cs p u c
    unfolding disband channel
    ends = rw (y, x) (sym (h _))

    pub disband_refused : eqb n 9 ≡ true → settled n l cs o ≡ settle cs (disband us cs p u c) out
    disband_refused r = did_refuse _ _ e cs (end_channel cs j) r ∙ ap (λ (z : Effect Channels). settle cs z out) ends

    pub disband_done : eqb n 9 ≡ false → (cs' : Channels) → cs' ≡ end_channel cs j → settled n l cs' o ≡ settle cs (disband us cs p u c) out
    disband_done r cs' q = did _ _ e cs cs' (end_channel cs j) q r ∙ ap (λ (z : Effect Channels). settle cs z out) ends
