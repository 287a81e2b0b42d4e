-- CArq and CErq by cases. Assumes nothing.
use Rattle.std.specs.Prelude.{Option, Some, None}
use Rattle.codec_table.specs.Named.{CArq, CErq}
use mathlib.Core.Path.{◌≡◌, refl, sym, ap, ◌∙◌}
use mathlib.Core.Bool.{true, false}
use mathlib.Core.List.{List}
use Prim.Native.Nat.{ℕ}
use lib.Dec.{eqb}
use lib.ListN.{get_or}
use Rattle.domain.specs.declared.channel.Channel.{Channel}
use Rattle.domain.specs.Cells.{no_channel}
use Rattle.domain.specs.Tables.{Users, Channels, Domain, channel, set_channel, put_channels, grant}
use Rattle.domain.specs.Effects.{Effect, settled, settle}
use Rattle.domain.specs.Events.{act}
use Rattle.domain.proofs.Requesting.{on_channels}
use Rattle.domain.specs.Channels.{manages, places, attached_of, admitted_of, admit, expel}
use Rattle.serve_private_tell.specs.declared.Pick.{Pick}
use Rattle.serve_private_tell.specs.declared.Say.{Say}
use Rattle.serve_private_tell.specs.declared.Say.TheVariants.{Admits, Expels}
use Rattle.serve_private_tell.specs.Sieve.{picked, sieved, says, tells}
use Rattle.serve_private_tell.proofs.Telling.{told_else, told_done}
use Rattle.serve_private.specs.Changes.{picks, changed, changes, asker, asked_of, asks, at_managed}

-- ---- CArq or CErq
abbrev pub revised : (us : Users) (cs : Channels) (p : ℕ) (say : Say) (ids : List ℕ) → Effect Channels
revised us cs p (Admits u c) ids = admit us cs p u c ids
revised us cs p (Expels u c) ids = expel us cs p u c ids

pub revise_asked : (d : Domain) (p : ℕ) (say : Say) (ids out : List ℕ) {n l : ℕ} {o : List ℕ} {cs : Channels}
    → settled n l cs o ≡ settle d.channels (revised d.users d.channels p say ids) out
    → settled n l (put_channels d cs) o ≡ settle d (act (grant d.channels) d p (asks say ids)) out
unfolding act
revise_asked d p (Admits u c) ids out e = on_channels d.limits d.links d.users d.channels d.tokens (grant d.channels) p (CArq u c ids) out _ e refl
revise_asked d p (Expels u c) ids out e = on_channels d.limits d.links d.users d.channels d.tokens (grant d.channels) p (CErq u c ids) out _ e refl

-- a channel that u on p manages, or nobody does
module _ (us : Users) (cs : Channels) (p : ℕ) (ids : List ℕ) where
  abbrev Managed : Say → Option ℕ → Type 0
  Managed say place = (go : ℕ → ℕ → ℕ → Effect Channels) → manages us cs p (asker say) (asked_of say) go ≡ at_managed cs place go

  pub revise_ignored : (out : List ℕ) (say : Say) → Managed say None → settled 1 0 cs out ≡ settle cs (revised us cs p say ids) out
  unfolding admit expel settle
  revise_ignored out (Admits u c) h = rw (h _) refl
  revise_ignored out (Expels u c) h = rw (h _) refl

  pub revises : (say : Say) (j : ℕ) → Managed say (Some j) → changes us cs j say ids ≡ revised us cs p say ids
  unfolding changes picks changed says sieved picked admit attached_of expel admitted_of
  revises (Admits u c) j h = sym (h _)
  revises (Expels u c) j h = sym (h _)

-- ---- the channel at place j changes, or nothing does
module _ (us : Users) (cs : Channels) (j : ℕ) (say : Say) (ids out : List ℕ) (ch : Channel) (x : ch ≡ get_or cs.cells j no_channel) (k : Pick) (y : k ≡ picks say ch.guests)
    {n l : ℕ} {o : List ℕ} (e : settled {A = Unit {0}} n l tt o ≡ settle tt (tells us say (sieved us k ids) tt) out) where
  abbrev next : Pick → Channels
  next k = set_channel cs j (changed us say (channel cs j) (places us (sieved us k ids)))

  whole : settle cs (tells us say (sieved us k ids) (next k)) out ≡ settle cs (changes us cs j say ids) out
  unfolding changes channel
  whole = ap (λ (k : Pick). settle cs (tells us say (sieved us k ids) (next k)) out) (y ∙ ap (λ (c : Channel). picks say c.guests) x)

  pub change_else : eqb n 0 ≡ false → settled n l cs o ≡ settle cs (changes us cs j say ids) out
  change_else h = told_else us say (sieved us k ids) out e cs (next k) h ∙ whole

  pub change_done : eqb n 0 ≡ true → (mask : ℕ) → mask ≡ places us (sieved us k ids) → (new : Channel) → new ≡ changed us say ch mask
      → (after : Channels) → after ≡ set_channel cs j new → settled n l after o ≡ settle cs (changes us cs j say ids) out
  unfolding channel
  change_done h mask m new z after q =
      ap (λ (a : Channels). settled n l a o) (q ∙ ap (set_channel cs j) (z ∙ ap (λ (c : Channel). changed us say c mask) x ∙ ap (changed us say (get_or cs.cells j no_channel)) m))
      ∙ told_done us say (sieved us k ids) out e cs (next k) h ∙ whole
