-- CArq and CErq: who is named in a CAin or a CEin is who is admitted or expelled in the table. Assumes nothing.
use Rattle.std.specs.Prelude.{if◌then◌else◌}
use mathlib.Core.Path.{◌≡◌, refl, sym, ap, ◌∙◌}
use mathlib.Core.Bool.{Bool, true, false, not, ◌&&◌, ◌||◌}
use mathlib.Core.List.{List}
use mathlib.Core.Option.{Option}
use Prim.Native.Nat.{ℕ, ◌<◌}
use native.Mathlib.Omega.{arith}
use lib.Dec.{eqb}
use lib.ListN.{length, get_or}
use borrow.Author.Tests.{eq-eqb, ne_eqb}
use Rattle.cols_spec.specs.Sets.{null, has, with, minus, meet, union, member, connections, seats}
use Rattle.cols_spec.specs.Places.{At, find}
use Rattle.cols_spec.proofs.Digits.{has_those}
use Rattle.cols_spec.proofs.Marks.{has_low, in_meet}
use Rattle.cols_spec.proofs.Rows.{find_holds, find_there, in_list, get_d_any}
use Rattle.cols_spec.proofs.Table.{table_set}
use Rattle.codec_table.specs.Named.{Message, CAin, CEin}
use Rattle.domain.specs.declared.channel.Kind.{Kind}
use Rattle.domain.specs.declared.channel.Kind.TheVariants.{Private}
use Rattle.domain.specs.declared.channel.Channel.{Channel}
use Rattle.domain.specs.Cells.{no_channel, kind, channel_of, with_guests}
use Rattle.domain.specs.Tables.{Users, Channels, Domain, link, channel, set_channel, hosts}
use Rattle.domain.specs.Effects.{Effect, ignored, done, within}
use Rattle.domain.specs.Channels.{places, own, attached_of, admitted_of, admit, private_marks, expel}
use Rattle.domain.specs.Events.{Event}
use Rattle.domain.specs.History.{Entry, History, ◌▹◌}
use Rattle.domain.specs.Hearers.{notice, convening, convened, event_opens, joining, told_joined, admitting, admitted}
use Rattle.domain.proofs.Listed.{places_has}
use Rattle.domain.proofs.invariant.Sound.{Seated, Sound}
use Rattle.domain.proofs.invariant.Seats.{kind_of, marks_of, seated_low}
use Rattle.domain.proofs.invariant.Rooms.{guests_changed}
use Rattle.domain.proofs.hearers.Notices.{own_same, own_names}
use Rattle.domain.proofs.hearers.Recalls.{Recalled, Row, Recalls, told_same, not_opened}
use Rattle.domain.proofs.hearers.Joining.{Changes, manages_fine}

-- a user is on one of the 16 connections
link_low : (d : Domain) → Sound d → (i : ℕ) → Seated d.users i → link d.users i < 16
unfolding link
link_low d s i h =
    rw (get_d_any d.users.at i 16 0 (omega (arith, in_list d.users.ids i h, s.users_are.ids_size, s.users_are.cells_size)))
    (has_low 16 d.links _ s.links_fit (s.users_are.rows i h).linked)

module _ (h : History) (d : Domain) (s : Sound d) (a : Recalls h d.users d.channels) (ev : Event) (still : (q : ℕ) → event_opens ev q ≡ false) where
  abbrev us : Users
  us = d.users

  abbrev cid : ℕ → ℕ
  cid j = get_or d.channels.ids j 0

  abbrev cell : ℕ → Channel
  cell j = get_or d.channels.cells j no_channel

  -- messages that name users of channel c and bring t: of them, nothing else is heard
  module _ (c : ℕ) (say : (List ℕ → Message)) (t : Bool)
      (brings : (x v p : ℕ) (xs : List ℕ) (b : Bool) → admitting x v p (notice (say xs)) b ≡ (if eqb x c && member v xs then t else b))
      (no_grant : (x p : ℕ) (xs : List ℕ) (g : Option ℕ) → convening x p (notice (say xs)) g ≡ g)
      (no_join : (x q p : ℕ) (xs : List ℕ) (b : Bool) → joining x q p (notice (say xs)) b ≡ b) (ids : List ℕ) where
    abbrev heard : Entry
    heard = record { event = ev; reply = 0; sent = own us ids say }

    same_manager : (x : ℕ) → convened (heard ▹ h) x ≡ convened h x
    unfolding convened
    same_manager x = own_same (convening x) us say (no_grant x) ids (convened h x)

    same_told : (x q : ℕ) → told_joined (heard ▹ h) x q ≡ told_joined h x q
    unfolding told_joined
    same_told x q = rw (not_opened heard still q) (own_same (joining x q) us say (no_join x q) ids (told_joined h x q))

    other_guests : (x v : ℕ) → eqb x c ≡ false → admitted (heard ▹ h) x v ≡ admitted h x v
    unfolding admitted
    other_guests x v n = own_same (admitting x v) us say (λ p xs b. brings x v p xs b ∙ rw n) ids (admitted h x v)

    -- who is attached is named exactly where it is listed
    guests_named : (i : ℕ) → Seated us i → admitted (heard ▹ h) c (get_or us.ids i 0) ≡ (if has (places us ids) i then t else admitted h c (get_or us.ids i 0))
    unfolding admitted
    guests_named i l =
        let at : find us.ids (get_or us.ids i 0) ≡ At i = find_there us.ids s.users_are.apart i l in
        own_names (admitting c (get_or us.ids i 0)) us say (get_or us.ids i 0) i at (link_low d s i l) (eqb c c) t (brings c (get_or us.ids i 0)) ids (admitted h c (get_or us.ids i 0))
        ∙ rw (eq-eqb c c refl, places_has us (get_or us.ids i 0) i at (seated_low us s.users_are.ids_size i l) ids)

    -- channel c at place j has other users admitted, and no more marks
    named_fine : (j m adm : ℕ) → find d.channels.ids c ≡ At j → kind (cell j) ≡ Private m adm → (adm' marks' : ℕ)
        → ((i : ℕ) → i < 64 → has adm' i ≡ (if has (places us ids) i then t else has adm i)) → ((q : ℕ) → has marks' q ≡ true → has (cell j).marks q ≡ true)
        → Changes h d s a ev still (done (set_channel d.channels j (with_guests (cell j) adm' marks')) (own us ids say))
    unfolding set_channel within
    named_fine j m adm e q adm' marks' law fewer = record {
      low = λ x l. same_manager x ∙ a.low x l;
      rows = (table_set s.channels_are (Row (heard ▹ h) us) j used
          (λ i n l y. told_same h (heard ▹ h) us (cid i) (kind (cell i)) _ _ (same_manager (cid i)) (λ v. other_guests (cid i) v (other i n l)) (λ q b f. same_told (cid i) q ∙ f b) (a.rows i l))
          (with_guests (cell j) adm' marks') (rw (guests_changed (cell j) m adm _ stored adm' marks', kind_of (Private m adm') marks', marks_of (Private m adm') marks') after)).rows;
    }
      where
        r : (cid j ≡ c) × (j < length d.channels.ids) × (0 < c)
        r = find_holds d.channels.ids c j e

        used : 0 < cid j
        used = rw r.0 r.2

        other : (i : ℕ) → (i ≡ j → ⊥) → 0 < cid i → eqb (cid i) c ≡ false
        other i n l = ne_eqb (cid i) c (λ z. n (s.channels_are.apart i j l (z ∙ sym r.0)))

        stored : cell j ≡ channel_of (Private m adm) (cell j).marks
        stored = (s.channels_are.rows j used).plain ∙ ap (λ (k : Kind). channel_of k (cell j).marks) q

        was : Recalled h us c m adm (cell j).marks
        was = rw (r.0, q) at (a.rows j used)

        after : Recalled (heard ▹ h) us (cid j) m adm' marks'
        after = rw r.0 (record {
          chaired = same_manager c ∙ was.chaired;
          guests = λ i l. guests_named i l ∙ rw (was.guests i l) (sym (law i (seated_low us s.users_are.ids_size i l)));
          marks = λ p l. same_told c p ∙ was.marks p (fewer p l);
        })

  -- ---- the requests

  either : (b : Bool) (x : Effect Channels) → Changes h d s a ev still x → Changes h d s a ev still (if b then ignored else x)
  unfolding within
  either true x f = tt
  either false x f = f

  listed_in : (b x : Bool) → (x || b) ≡ (if b then true else x)
  listed_in true true = refl
  listed_in true false = refl
  listed_in false true = refl
  listed_in false false = refl

  listed_out : (b x : Bool) → (x && not b) ≡ (if b then false else x)
  listed_out true true = refl
  listed_out true false = refl
  listed_out false true = refl
  listed_out false false = refl

  pub admit_fine : (p u c : ℕ) (ids : List ℕ) → Changes h d s a ev still (admit us d.channels p u c ids)
  unfolding admit channel notice convening joining admitting union
  admit_fine p u c ids = manages_fine h d s a ev still p u c _ (λ j m adm e q.
      either (null (attached_of us ids)) _
      (named_fine c (CAin u c) true (λ x v p xs b. refl) (λ x p xs g. refl) (λ x q p xs b. refl) (attached_of us ids) j m adm e q (union seats adm (places us (attached_of us ids))) (cell j).marks
      (λ i l. has_those 64 (λ k. has adm k || has (places us (attached_of us ids)) k) i l ∙ listed_in (has (places us (attached_of us ids)) i) (has adm i)) (λ q l. l)))

  pub expel_fine : (p u c : ℕ) (ids : List ℕ) → Changes h d s a ev still (expel us d.channels p u c ids)
  unfolding expel private_marks channel notice convening joining admitting minus
  expel_fine p u c ids = manages_fine h d s a ev still p u c _ (λ j m adm e q.
      either (null (admitted_of us adm ids)) _
      (named_fine c (CEin c) false (λ x v p xs b. refl) (λ x p xs g. refl) (λ x q p xs b. refl) (admitted_of us adm ids) j m adm e q (minus seats adm (places us (admitted_of us adm ids)))
      (meet connections (cell j).marks (hosts us (with seats (minus seats adm (places us (admitted_of us adm ids))) m)))
      (λ i l. has_those 64 (λ k. has adm k && not (has (places us (admitted_of us adm ids)) k)) i l ∙ listed_out (has (places us (admitted_of us adm ids)) i) (has adm i))
      (λ p l. (in_meet 16 (cell j).marks p _ l).0)))
