-- The messages that history does not read: channels, polls and tests, and heights. Assumes nothing.
use Rattle.std.specs.Prelude.{if◌then◌else◌}
use mathlib.Core.Path.{◌≡◌, refl}
use mathlib.Core.Bool.{Bool, true, false}
use mathlib.Core.List.{List, [], ◌∷◌}
use Prim.Native.Nat.{ℕ, zero, suc}
use lib.Dec.{eqb, ltb}
use Rattle.cols_spec.specs.Places.{Place, At, Nowhere, find}
use Rattle.cols_spec.specs.Sets.{all, null, any}
use Rattle.codec_table.specs.Named.{Message, CDin, CAin, CEin}
use Rattle.out_records.specs.Records.{Sent, to, tell}
use Rattle.domain.specs.Tables.{Users, Channels, Domain, put_channels, channel}
use Rattle.domain.specs.declared.channel.Kind.{Kind}
use Rattle.domain.specs.declared.channel.Kind.TheVariants.{Static, User, Private, Assigned}
use Rattle.domain.specs.Events.{Event}
use Rattle.domain.specs.Cells.{kind}
use Rattle.domain.specs.Effects.{Effect, ignored, done, within}
use Rattle.domain.specs.Channels.{may, join_at, join_new, join, joined, leave_channels, convene, owned, manages, disband, own, attached_of, admit, admitted_of, expel}
use Rattle.domain.specs.History.{History, unread, reading, asks, code, same}
use Rattle.domain.proofs.Sending.{tell_all, own_all}
use Rattle.domain.proofs.holders.Heard.{mute, mutes}
use Rattle.domain.proofs.holders.Agrees.{Agrees, Fine, calm, from_fine}

-- one message to several connections, and each connection's own ids
pub tell_mute : (m : ℕ) (s : Message) → mutes (reading s).word ≡ true → all mute (tell m s) ≡ true
unfolding mute
tell_mute m s q = tell_all mute m s (λ p. q)

own_mute : (us : Users) (ids : List ℕ) (say : List ℕ → Message) → ((xs : List ℕ) → mutes (reading (say xs)).word ≡ true) → all mute (own us ids say) ≡ true
unfolding mute
own_mute us ids say q = own_all mute us ids say (λ p. q)

-- ---- the messages

module _ (h : History) (d : Domain) (a : Agrees h d.users d.tokens) (ev : Event) (quiet : asks ev ≡ unread) where
  -- what a request about channels does goes well
  abbrev pub Hushed : Effect Channels → Type 0
  Hushed x = Fine h d ev (within (put_channels d) x)

  -- records of which history reads nothing, and one such record
  sends : (cs : Channels) (rs : List Sent) → all mute rs ≡ true → Hushed (done cs rs)
  unfolding within
  sends cs rs q = calm h d a ev quiet (put_channels d cs) rs refl refl refl q

  says : (cs : Channels) (p : ℕ) (m : Message) → mutes (reading m).word ≡ true → Hushed (done cs (to p m ∷ []))
  unfolding all mute
  says cs p m q = sends cs (to p m ∷ []) (rw q)

  skips : Hushed ignored
  unfolding within
  skips = tt

  either : (b : Bool) (x y : Effect Channels) → Hushed x → Hushed y → Hushed (if b then x else y)
  either true x y f g = f
  either false x y f g = g

  pub join_fine : (new : ℕ) (full : Bool) (p u c : ℕ) → Hushed (join new full d.users d.channels p u c)
  unfolding join join_at join_new reading mutes same code
  join_fine new full p u c = from_fine h d a ev (put_channels d) p u _ (λ i mine on. go i (find d.channels.ids c))
    where
      at : (j n : ℕ) → Hushed (join_at d.channels p u c j n)
      at j zero = says _ p _ refl
      at j (suc n) = says _ p _ refl

      go : (i : ℕ) (x : Place) → Hushed (elim x as (λ (_ : Place). Effect Channels) [
        | At j ↦ join_at d.channels p u c j (may (kind (channel d.channels j)) c u i)
        | Nowhere ↦ join_new new full d.channels p u c
      ])
      go i (At j) = at j (may (kind (channel d.channels j)) c u i)
      go i Nowhere = either (ltb 1000 c) _ _ (says _ p _ refl) (either full _ _ (says _ p _ refl) (either (eqb c 0) _ _ (says _ p _ refl) (says _ p _ refl)))

  pub leave_channels_fine : (p : ℕ) (cs : List ℕ) → Hushed (leave_channels d.channels p cs)
  unfolding leave_channels all
  leave_channels_fine p cs = either (any (joined d.channels p) cs) _ _ (sends _ [] refl) skips

  pub convene_fine : (new : ℕ) (full : Bool) (p u : ℕ) → Hushed (convene new full d.users d.channels p u)
  unfolding convene reading mutes same code
  convene_fine new full p u = from_fine h d a ev (put_channels d) p u _ (λ i mine on. either full _ _ (says _ p _ refl) (says _ p _ refl))

  owned_fine : (k : Kind) (i : ℕ) (act : (ℕ → ℕ → Effect Channels)) → ((m adm : ℕ) → Hushed (act m adm)) → Hushed (owned k i act)
  unfolding owned
  owned_fine Static i act f = skips
  owned_fine User i act f = skips
  owned_fine (Private m adm) i act f = either (eqb m i) _ _ (f m adm) skips
  owned_fine Assigned i act f = skips

  manages_fine : (p u c : ℕ) (act : (ℕ → ℕ → ℕ → Effect Channels)) → ((j m adm : ℕ) → Hushed (act j m adm)) → Hushed (manages d.users d.channels p u c act)
  unfolding manages
  manages_fine p u c act f = from_fine h d a ev (put_channels d) p u _ (λ i mine on. go i (find d.channels.ids c))
    where
      go : (i : ℕ) (x : Place) → Hushed (elim x as (λ (_ : Place). Effect Channels) [ At j ↦ owned (kind (channel d.channels j)) i (act j) | Nowhere ↦ ignored ])
      go i (At j) = owned_fine _ i (act j) (f j)
      go i Nowhere = skips

  pub disband_fine : (p u c : ℕ) → Hushed (disband d.users d.channels p u c)
  unfolding disband reading mutes same code
  disband_fine p u c = manages_fine p u c _ (λ j m adm. sends _ _ (tell_mute _ (CDin c) refl))

  pub admit_fine : (p u c : ℕ) (ids : List ℕ) → Hushed (admit d.users d.channels p u c ids)
  unfolding admit reading mutes same code
  admit_fine p u c ids = manages_fine p u c _ (λ j m adm. either (null (attached_of d.users ids)) _ _ skips (sends _ _ (own_mute d.users _ (CAin u c) (λ xs. refl))))

  pub expel_fine : (p u c : ℕ) (ids : List ℕ) → Hushed (expel d.users d.channels p u c ids)
  unfolding expel reading mutes same code
  expel_fine p u c ids = manages_fine p u c _ (λ j m adm. either (null (admitted_of d.users adm ids)) _ _ skips (sends _ _ (own_mute d.users _ (CEin c) (λ xs. refl))))
