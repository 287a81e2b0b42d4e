-- Who could have heard, from an image: its marks and admissions count as made there, and so the claims hold of every run from there. Assumes nothing.
use mathlib.Core.Path.{◌≡◌, refl, ap, ◌∙◌}
use mathlib.Core.Option.{Option, none, some}
use Prim.Native.Nat.{ℕ, ◌≤◌, ◌<◌}
use native.Mathlib.Omega.{arith}
use lib.ListN.{get_or}
use Rattle.cols_spec.specs.Sets.{has, member}
use Rattle.cols_spec.specs.Places.{Place, At, Nowhere, find}
use Rattle.cols_spec.proofs.Rows.{find_holds, find_there}
use Rattle.codec_table.specs.Named.{Message}
use Rattle.domain.specs.declared.channel.Kind.{Kind}
use Rattle.domain.specs.declared.channel.Kind.TheVariants.{Static, User, Private, Assigned}
use Rattle.domain.specs.Cells.{no_channel, kind}
use Rattle.domain.specs.Tables.{Users, Channels, Domain, name, channel, seen}
use Rattle.domain.specs.Good.{Good}
use Rattle.domain.specs.History.{History, begins}
use Rattle.domain.specs.Claims.{run, now, past, goes}
use Rattle.domain.specs.Hearers.{convened, told_joined, admitted, DataMarked}
use Rattle.domain_laws.specs.Same.{among, ids_of, Role, role_of, channel_at}
use Rattle.domain_laws.specs.View.{view, pick}
use Rattle.domain_laws.specs.Built.{built}
use Rattle.domain_begun.specs.Begun.{chair, invites, chaired, invited, listens, begun_by, from_image, WhoHeardFromImage, WhoHeardFromTables, DataHeardFromImage, DataHeardFromTables}
use Rattle.domain.proofs.invariant.Sound.{Seated, Sort, Sound}
use Rattle.domain.proofs.invariant.GoodIsSound.{good_sound}
use Rattle.domain.proofs.hearers.Recalls.{Told, Row, Recalls}
use Rattle.domain.proofs.hearers.Claimed.{Trusted, trusted_goes, run_hear, right_goes}
use Rattle.domain_laws.proofs.same.Twins.{ids_has}
use Rattle.domain_laws.proofs.same.Views.{channels_picked}
use Rattle.domain_laws.proofs.restored.Taken.{taken}
use Rattle.domain_begun.proofs.Begun.{begun_agrees}

module _ (d : Domain) (s : Sound d) where
  abbrev us : Users
  us = d.users

  abbrev cs : Channels
  cs = d.channels

  -- the history that begins with the image
  abbrev begins_here : History
  begins_here = begins (begun_by (view d))

  -- no channel of a low id is private
  begun_low : (c : ℕ) → c ≤ 1000 → convened begins_here c ≡ none
  unfolding convened begun_by channel_at chaired chair role_of channel
  begun_low c l = ap chaired (channels_picked d c) ∙ go (find cs.ids c) refl
    where
      by_kind : (k : Kind) (m : ℕ) → Sort us c k m → chair (role_of us k) ≡ none
      by_kind Static m x = refl
      by_kind User m x = refl
      by_kind (Private g adm) m x = absurd (omega (arith, x.0))
      by_kind Assigned m x = refl

      go : (w : Place) → find cs.ids c ≡ w → chaired (seen w none (λ j. some (role_of us (kind (channel cs j)), (channel cs j).marks))) ≡ none
      go (At j) e =
          let r = find_holds cs.ids c j e in
          let used : 0 < get_or cs.ids j 0 = rw r.0 r.2 in
          by_kind (kind (get_or cs.cells j no_channel)) (get_or cs.cells j no_channel).marks (rw r.0 at (s.channels_are.rows j used).sort)
      go Nowhere e = refl

  -- a user is admitted where it is at a place of the mask
  guest : (adm i : ℕ) → Seated us i → member (get_or us.ids i 0) (ids_of us adm) ≡ has adm i
  unfolding among
  guest adm i l = ids_has us adm (get_or us.ids i 0) ∙ rw (find_there us.ids s.users_are.apart i l)

  -- what it says of a channel of each kind
  begun_told : (c : ℕ) (k : Kind) (m : ℕ) → pick c (view d).channels ≡ some (role_of us k, m) → Told begins_here us c k m
  unfolding convened admitted told_joined begun_by chaired chair invited invites listens role_of name
  begun_told c Static m e = ap chaired e
  begun_told c User m e = ap chaired e
  begun_told c (Private g adm) m e = record {
    chaired = ap chaired e;
    guests = λ i l. ap (λ (x : Option (Role × ℕ)). invited x (get_or us.ids i 0)) e ∙ guest adm i l;
    marks = λ q l. ap (λ (x : Option (Role × ℕ)). listens x q) e ∙ l;
  }
  begun_told c Assigned m e = ap chaired e

  -- so of every channel in use
  begun_row : (j : ℕ) → 0 < get_or cs.ids j 0 → Row begins_here us j (get_or cs.ids j 0) (get_or cs.cells j no_channel)
  unfolding channel_at channel
  begun_row j l =
      let ch = get_or cs.cells j no_channel in
      begun_told (get_or cs.ids j 0) (kind ch) ch.marks (channels_picked d (get_or cs.ids j 0) ∙ rw (find_there cs.ids s.channels_are.apart j l))

  -- what the image says of channels is what the tables say
  begun_recalls : Recalls begins_here us cs
  begun_recalls = record { low = begun_low; rows = begun_row }

-- good tables, and a history that begins with what they say
begun_trusted : (d : Domain) → Good d → Trusted d.limits (run d (begins (begun_by (view d))))
unfolding now past
begun_trusted d g = record {
  faithful = record { good = g; agrees = begun_agrees d (good_sound d g); limits = refl };
  recalls = begun_recalls d (good_sound d g);
}

-- who could have heard
pub tables_heard : WhoHeardFromTables
tables_heard d v ts g q f =
    let r = run d (begins (begun_by (view d))) in
    rw (← q) (run_hear d.limits (goes r ts) (trusted_goes d.limits ts r f (begun_trusted d g)))

pub image_heard : WhoHeardFromImage
unfolding from_image
image_heard v ts t f = let r = taken.0 v t in tables_heard (built v) v ts r.0 r.1 f

-- data went only to those, once it goes only to marked connections
module _ (data_on : (Message → Option ℕ)) (law : DataMarked data_on) where
  pub tables_data : DataHeardFromTables data_on
  unfolding past
  tables_data d v ts g q f =
      let r = run d (begins (begun_by (view d))) in
      rw (← q) (right_goes data_on law d.limits ts r f (begun_trusted d g, tt)).1

  pub image_data : DataHeardFromImage data_on
  unfolding from_image
  image_data v ts t f = let r = taken.0 v t in tables_data (built v) v ts r.0 r.1 f
