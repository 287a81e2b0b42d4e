-- DUrq, DPum, RJum and loss: who leaves is admitted nowhere, and of the private channels that stay history says what it said. Assumes nothing.
use Rattle.std.specs.Prelude.{if◌then◌else◌}
use mathlib.Core.Path.{◌≡◌, refl, sym, ap, ◌∙◌}
use mathlib.Core.Bool.{Bool, true, false, not, ◌&&◌, and-true}
use mathlib.Core.List.{List}
use mathlib.Core.Option.{none, some}
use Prim.Native.Nat.{ℕ}
use native.Mathlib.Omega.{arith}
use lib.ListN.{get_or}
use Rattle.cols_spec.specs.Sets.{null, all, once, has, with, without, minus, meet, connections, seats}
use Rattle.cols_spec.specs.Places.{Place, At, Nowhere, find, in_order, turns_to}
use Rattle.cols_spec.proofs.Bools.{none≢some, some_is}
use Rattle.cols_spec.proofs.Digits.{has_those}
use Rattle.cols_spec.proofs.Marks.{in_meet}
use Rattle.cols_spec.proofs.Table.{swept_same, sweep_used}
use Rattle.out_records.specs.Records.{Sent}
use Rattle.domain.specs.declared.channel.Kind.{Kind}
use Rattle.domain.specs.declared.channel.Kind.TheVariants.{Static, User, Private, Assigned}
use Rattle.domain.specs.declared.channel.Channel.{Channel}
use Rattle.domain.specs.Cells.{no_channel, kind, channel_of, with_guests}
use Rattle.domain.specs.Tables.{Users, Domain, stays_on, remove_users, narrowed, hosts}
use Rattle.domain.specs.Channels.{places, private_marks}
use Rattle.domain.specs.Effects.{ignored}
use Rattle.domain.specs.Leaving.{fate_of, fate, farewell, leave, those_on, detach, close}
use Rattle.domain.specs.Events.{Event}
use Rattle.domain.specs.History.{Entry, History, ◌▹◌}
use Rattle.domain.specs.Hearers.{convened, event_opens}
use Rattle.domain.proofs.invariant.Sound.{Seated, UserRow, Sort, Sound}
use Rattle.domain.proofs.invariant.Seats.{kind_of, marks_of, seated_low}
use Rattle.domain.proofs.invariant.Rooms.{guests_changed, sweep_table}
use Rattle.domain.proofs.invariant.Leavers.{own_fate}
use Rattle.domain.proofs.hearers.Notices.{hushed, convened_silent, admitted_silent}
use Rattle.domain.proofs.hearers.Recalls.{Recalled, Told, Row, Recalls, Fine}
use Rattle.domain.proofs.hearers.Hushed.{farewell_hushed}
use Rattle.domain.proofs.hearers.Joining.{marked_is, kind_marked, joined_hushed, low_hushed}

module _ (h : History) (d : Domain) (s : Sound d) (a : Recalls h d.users d.channels) (ev : Event) (still : (q : ℕ) → event_opens ev q ≡ false) where
  abbrev us : Users
  us = d.users

  abbrev cell : ℕ → Channel
  cell j = get_or d.channels.cells j no_channel

  module _ (gone live : ℕ) (rs : List Sent) (dull : all hushed rs ≡ true) where
    abbrev us' : Users
    us' = remove_users us gone

    abbrev heard : Entry
    heard = record { event = ev; reply = 0; sent = rs }

    -- who is seated then was seated, with the same id, and stays
    sat : (i : ℕ) → Seated us' i → (get_or us'.ids i 0 ≡ get_or us.ids i 0) × (has gone i ≡ false)
    unfolding remove_users stays_on turns_to
    sat i l =
        let same : get_or us'.ids i 0 ≡ get_or us.ids i 0 = swept_same s.users_are (UserRow live d.channels) (stays_on gone) i l in
        (same, go (rw same at l) (has gone i) refl)
      where
        go : Seated us i → (b : Bool) → has gone i ≡ b → has gone i ≡ false
        go k true q = absurd (omega (arith, l, (sweep_used s.users_are (UserRow live d.channels) (stays_on gone) i k none (rw q)).0))
        go k false q = q

    sits : (i : ℕ) → Seated us i → has gone i ≡ false → get_or us'.ids i 0 ≡ get_or us.ids i 0
    unfolding remove_users stays_on turns_to
    sits i l q = (sweep_used s.users_are (UserRow live d.channels) (stays_on gone) i l (some (get_or us.at i 0)) (rw q)).0

    -- a channel that is not private stays so, where it stays
    kind_then : (ch : Channel) (n : ℕ) (new : Channel) → narrowed ch n ≡ some new → kind new ≡ kind ch
    kind_then ch n new e = ap kind (marked_is ch n new e) ∙ kind_marked ch n

    same_none : (c : ℕ) → convened h c ≡ none → convened (heard ▹ h) c ≡ none
    same_none c t = convened_silent heard h dull c ∙ t

    -- what becomes of a channel
    fate_told : (j c : ℕ) (ch : Channel) (k : Kind) → kind ch ≡ k → ch ≡ channel_of k ch.marks → Sort us c k ch.marks → Told h us c k ch.marks
        → (new : Channel) → fate_of us gone live c ch k ≡ some new → Row (heard ▹ h) us' j c new
    unfolding fate_of private_marks minus
    fate_told j c ch Static q p x t new e = rw (kind_then ch _ new e ∙ q) (same_none c t)
    fate_told j c ch User q p x t new e = go (find us.ids c) e
      where
        on : (b : Bool) → (if b then none else narrowed ch (meet connections ch.marks live)) ≡ some new → Row (heard ▹ h) us' j c new
        on true f = absurd (none≢some f)
        on false f = rw (kind_then ch _ new f ∙ q) (same_none c t)

        go : (w : Place) → own_fate gone ch (meet connections ch.marks live) w ≡ some new → Row (heard ▹ h) us' j c new
        go (At i) f = on (has gone i) f
        go Nowhere f = on false f
    fate_told j c ch (Private g adm) q p x t new e = go (has gone g) refl e
      where
        fewer : ℕ
        fewer = minus seats adm gone

        marks' : ℕ
        marks' = meet connections (meet connections ch.marks live) (hosts us (with seats fewer g))

        kept : (i : ℕ) → Seated us' i → has adm i ≡ has fewer i
        kept i l = let r = sat i l in
            sym (has_those 64 (λ k. has adm k && not (has gone k)) i (seated_low us s.users_are.ids_size i (rw r.0 at l)) ∙ rw r.1 (and-true (has adm i)))

        after : has gone g ≡ false → Recalled (heard ▹ h) us' c g fewer marks'
        after z = record {
          chaired = convened_silent heard h dull c ∙ t.chaired ∙ ap some (sym (sits g x.2.manager z));
          guests = λ i l. admitted_silent heard h dull c _ ∙ rw (sat i l).0 (t.guests i (rw (sat i l).0 at l)) ∙ kept i l;
          marks = λ p l. joined_hushed h d s a ev still rs dull c p ∙ t.marks p (in_meet 16 ch.marks p live (in_meet 16 (meet connections ch.marks live) p _ l).0).0;
        }

        go : (b : Bool) → has gone g ≡ b → (if b then none else some (with_guests ch fewer marks')) ≡ some new → Row (heard ▹ h) us' j c new
        go true z f = absurd (none≢some f)
        go false z f = rw (some_is f, guests_changed ch g adm _ p fewer marks', kind_of (Private g fewer) marks', marks_of (Private g fewer) marks') (after z)
    fate_told j c ch Assigned q p x t new e = rw (kind_then ch _ new e ∙ q) (same_none c t)

  leave_fine : (live reason : ℕ) (ids : List ℕ) → Fine h ev (leave d live reason ids)
  unfolding leave fate
  leave_fine live reason ids =
      let gone = places us ids in
      let rs = farewell d gone live reason ids in
      let dull : all hushed rs ≡ true = farewell_hushed d gone live reason ids in
      record {
        low = low_hushed h d s a ev still rs dull;
        rows = (sweep_table d.channels s.channels_are (Row _ _) (fate us gone live)
            (λ j l r ch e. fate_told gone live rs dull j _ (cell j) (kind (cell j)) refl r.plain r.sort (a.rows j l) ch e)).rows;
      }

  -- DUrq
  pub detach_fine : (p reason : ℕ) (ids : List ℕ) → Fine h ev (detach d p reason ids)
  unfolding detach
  detach_fine p reason ids = go (null (those_on us p (once ids)))
    where
      go : (b : Bool) → Fine h ev (if b then ignored else leave d d.links reason (those_on us p (once ids)))
      go true = tt
      go false = leave_fine d.links reason (those_on us p (once ids))

  -- DPum, RJum, loss
  pub close_fine : (p : ℕ) → Fine h ev (close d p)
  unfolding close
  close_fine p = leave_fine (without connections d.links p) 0 (those_on us p (in_order us.ids))
