-- AUrq and opening: a new user is admitted nowhere, and a new connection is marked nowhere. Assumes nothing.
use Rattle.std.specs.Prelude.{if◌then◌else◌}
use mathlib.Core.Path.{◌≡◌, refl, sym, ap, ◌∙◌}
use mathlib.Core.Bool.{Bool, true, false, ◌||◌, true≢false}
use mathlib.Core.List.{[], ◌∷◌}
use mathlib.Core.Option.{Option, none, some}
use Prim.Native.Nat.{ℕ, ◌≤◌, ◌<◌}
use native.Mathlib.Omega.{arith}
use lib.Dec.{eqb}
use lib.ListN.{length, get_or}
use borrow.Author.Tests.{eq-eqb, ne_eqb, eqb-true, leb-false}
use Rattle.cols_spec.specs.Sets.{all, has, with, connections}
use Rattle.cols_spec.specs.Places.{At, used, spare, store}
use Rattle.cols_spec.proofs.Marks.{Marks}
use Rattle.cols_spec.proofs.Rows.{at_set}
use Rattle.cols_spec.proofs.Table.{new_place}
use Rattle.codec_table.specs.Named.{AUcf, successful, too_many_channels, too_many_users}
use Rattle.codec_table.specs.Named.{Message}
use Rattle.out_records.specs.Records.{to}
use Rattle.domain.specs.declared.channel.Kind.{Kind}
use Rattle.domain.specs.declared.channel.Kind.TheVariants.{Static, User, Private, Assigned}
use Rattle.domain.specs.Cells.{no_channel, kind, channel_of}
use Rattle.domain.specs.Tables.{Users, Domain, put_links, put_both, add_user, add_channel, at_limit}
use Rattle.domain.specs.Effects.{done, within}
use Rattle.domain.specs.Channels.{attach}
use Rattle.domain.specs.Events.{users_full, channels_full, Event, opens}
use Rattle.domain.specs.History.{Entry, History, ◌▹◌}
use Rattle.domain.specs.Hearers.{comes, notice, known_as, convening, convened, link_opened, event_opens, joining, told_joined, admitting, admitted}
use Rattle.domain.proofs.invariant.Sound.{Seated, UserRow, Sort, Sound, limits_le}
use Rattle.domain.proofs.invariant.Seats.{kind_of}
use Rattle.domain.proofs.invariant.Rooms.{add_table}
use Rattle.domain.proofs.hearers.Notices.{says_nothing, convened_silent, admitted_silent, joined_silent}
use Rattle.domain.proofs.hearers.Recalls.{Told, Row, Recalls, told_same, Went, Fine, quiet, not_opened}
use Rattle.domain.proofs.hearers.Hushed.{say_hushed}
use Rattle.domain.proofs.hearers.Joining.{one, convened_one, admitted_one, joined_one}

-- ---- a connection: no channel has a mark of one that was not open
pub open_fine : (h : History) (d : Domain) → Sound d → Recalls h d.users d.channels → (p : ℕ) → has d.links p ≡ false
    → Went h (opens p) (record { reply = 0; domain = put_links d (with connections d.links p); sent = [] })
unfolding link_opened event_opens all
open_fine h d s a p shut = record {
  low = λ c l. convened_silent e h refl c ∙ a.low c l;
  rows = λ j l. told_same h (e ▹ h) d.users _ (kind (get_or d.channels.cells j no_channel)) _ _
      (convened_silent e h refl _) (λ u. admitted_silent e h refl _ u)
      (λ q m f. joined_silent e h refl _ q ∙ rw (ne_eqb p q (λ z. true≢false (sym ((s.channels_are.rows j l).joins.are q m) ∙ ap (has d.links) (sym z) ∙ shut))) (f m)) (a.rows j l);
}
  where
    e : Entry
    e = record { event = opens p; reply = 0; sent = [] }

-- ---- a user

-- what is none stays none
none_still : (b : Bool) → ◌≡◌ {A = Option ℕ} (if b then none else none) none
none_still true = refl
none_still false = refl

module _ (h : History) (d : Domain) (s : Sound d) (a : Recalls h d.users d.channels) (ev : Event) (still : (q : ℕ) → event_opens ev q ≡ false)
    (p new : ℕ) (lo : 1001 ≤ new) (away : (j : ℕ) → get_or d.channels.ids j 0 ≡ new → ⊥) where
  abbrev us : Users
  us = d.users

  abbrev us' : Users
  us' = add_user us new p

  abbrev came : Message
  came = AUcf successful (some new)

  abbrev h' : History
  h' = one ev p came ▹ h

  conv : (c : ℕ) → convened h' c ≡ (if eqb c new || known_as (convened h c) new then none else convened h c)
  unfolding notice convening
  conv c = convened_one h ev still p came (comes new) refl c

  adm : (c v : ℕ) → admitted h' c v ≡ (if eqb v new then false else admitted h c v)
  unfolding notice admitting
  adm c v = admitted_one h ev still p came (comes new) refl c v

  same_told : (c q : ℕ) → told_joined h' c q ≡ told_joined h c q
  unfolding notice joining
  same_told c q = joined_one h ev still p came (comes new) refl c q

  -- no channel of a manager becomes one, and the id that is granted is none
  conv_none : (c : ℕ) → convened h c ≡ none → convened h' c ≡ none
  conv_none c e = conv c ∙ rw e (none_still (eqb c new || known_as none new))

  no_user : (i : ℕ) → get_or us.ids i 0 ≡ new → ⊥
  no_user i e = let o = (s.users_are.rows i (rw e (omega arith))).owned in away o.spot (o.id_is ∙ e)

  module _ (few : used us.ids < d.limits.users) where
    -- the place of the new user
    spot : (j : ℕ) × (spare us.ids ≡ At j) × (get_or us.ids j 0 ≡ 0) × (j < length us.ids) × (j < length us.at)
    spot = new_place s.users_are (UserRow d.links d.channels) few (limits_le d.limits s.limits_ok).1 new p (omega arith)

    ids_then : (i : ℕ) → get_or us'.ids i 0 ≡ (if eqb i spot.0 then new else get_or us.ids i 0)
    unfolding add_user store
    ids_then i = rw spot.1 (at_set us.ids spot.0 i new 0 spot.3)

    other_place : (i : ℕ) → Seated us i → eqb i spot.0 ≡ false
    other_place i l = ne_eqb i spot.0 (λ e. omega (arith, l, spot.2, ap (λ (n : ℕ). get_or us.ids n 0) e))

    -- nobody was admitted at the place of the new user
    absent : (who : ℕ) → Marks 64 who (Seated us) → (i : ℕ) → eqb i spot.0 ≡ true → (b : Bool) → has who i ≡ b → has who i ≡ false
    absent who m i e true q = absurd (omega (arith, m.are i q, spot.2, ap (λ (n : ℕ). get_or us.ids n 0) (eqb-true i spot.0 e)))
    absent who m i e false q = q

    came_told : (c : ℕ) (k : Kind) (m : ℕ) → eqb c new ≡ false → Sort us c k m → Told h us c k m → Told h' us' c k m
    unfolding known_as
    came_told c Static m n x t = conv_none c t
    came_told c User m n x t = conv_none c t
    came_told c (Private g who) m n x t = record {
      chaired = conv c ∙ rw (n, t.chaired, ne_eqb (get_or us.ids g 0) new (no_user g), ids_then g, other_place g x.2.manager);
      guests = λ i l. rw (ids_then i) (go i (eqb i spot.0) refl (rw (ids_then i) at l));
      marks = λ q l. same_told c q ∙ t.marks q l;
    }
      where
        go : (i : ℕ) (b : Bool) → eqb i spot.0 ≡ b → 0 < (if b then new else get_or us.ids i 0) → admitted h' c (if b then new else get_or us.ids i 0) ≡ has who i
        go i true e l = adm c new ∙ rw (eq-eqb new new refl) (sym (absent who x.2.admitted i e (has who i) refl))
        go i false e l = adm c (get_or us.ids i 0) ∙ rw (ne_eqb (get_or us.ids i 0) new (no_user i)) (t.guests i l)
    came_told c Assigned m n x t = conv_none c t

    came_fine : channels_full d ≡ false → Fine h ev (within (put_both d) (done (us', add_channel d.channels new (channel_of User 0)) (to p came ∷ [])))
    unfolding within
    came_fine cf = record {
      low = λ c l. conv_none c (a.low c l);
      rows = (add_table d s new (omega arith) away cf (channel_of User 0) (Row h' us')
          (λ j. rw (kind_of User 0) (conv new ∙ rw (eq-eqb new new refl)))
          (λ j l r. came_told _ (kind (get_or d.channels.cells j no_channel)) _ (ne_eqb _ new (away j)) r.sort (a.rows j l))).rows;
    }

  pub attach_fine : Fine h ev (within (put_both d) (attach new (users_full d) (channels_full d) us d.channels p))
  unfolding attach users_full at_limit within notice says_nothing
  attach_fine = go (users_full d) refl (channels_full d) refl
    where
      refused : (n : ℕ) → Fine h ev (within (put_both d) (done (us, d.channels) (to p (AUcf n none) ∷ [])))
      refused n = quiet h d a ev (record { reply = 0; domain = put_both d (us, d.channels); sent = to p (AUcf n none) ∷ [] }) (not_opened _ still) (say_hushed p (AUcf n none) refl) refl refl

      go : (b : Bool) → users_full d ≡ b → (f : Bool) → channels_full d ≡ f
          → Fine h ev (within (put_both d) (if b then done (us, d.channels) (to p (AUcf too_many_users none) ∷ [])
          else if f then done (us, d.channels) (to p (AUcf too_many_channels none) ∷ [])
          else done (add_user us new p, add_channel d.channels new (channel_of User 0)) (to p (AUcf successful (some new)) ∷ [])))
      go true e f g = refused too_many_users
      go false e true g = refused too_many_channels
      go false e false g = came_fine (leb-false _ _ e) g
