-- Every event leaves the tables sound. Assumes nothing.
use Rattle.std.specs.Prelude.{if◌then◌else◌}
use mathlib.Core.Path.{◌≡◌, refl}
use mathlib.Core.Bool.{Bool, true, false, not, ◌||◌}
use mathlib.Core.List.{List, []}
use Prim.Native.Nat.{ℕ, ◌≤◌, ◌<◌, suc-le-suc}
use lib.Dec.{ltb}
use lib.ListN.{length, get_or}
use borrow.Author.Tests.{ltb-false, not-false}
use Rattle.cols_spec.specs.Sets.{has, with, connections}
use Rattle.cols_spec.proofs.Bools.{or_parts}
use Rattle.codec_table.specs.Named.{Message, EDrq, DPum, RJum, AUrq, AUcf, DUrq, DUin, CJrq, CJcf, CLrq, CCrq, CCcf, CDrq, CDin, CArq, CAin, CErq, CEin}
use Rattle.codec_table.specs.Named.{TGrq, TGcf, TIrq, TIcf, TVrq, TVin, TVrs, TVcf, TPrq, TPin, TRrq, TRcf, TTrq, TTcf}
use Rattle.codec_table.proofs.NamedLaws.{Ranges, ranges}
use Rattle.out_records.specs.Records.{Sent, records}
use Rattle.domain.specs.Tables.{Domain, put_links, put_tokens}
use Rattle.domain.specs.Effects.{Effect, ignored, done, within}
use Rattle.domain.specs.Leaving.{close}
use Rattle.domain.specs.Passing.{please, test}
use Rattle.domain.specs.Events.{act, Event, opens, loses, hears, Reading, reads, refuses, stays, sends, ends, complaint, answers, step_with}
use Rattle.domain.specs.Claims.{formed}
use Rattle.domain.proofs.invariant.Sound.{Sound, Fine}
use Rattle.domain.proofs.invariant.From.{from_fine}
use Rattle.domain.proofs.invariant.Held.{grab_fine, inhibit_fine, release_fine, offer_fine, answer_fine}
use Rattle.domain.proofs.invariant.Joins.{join_fine, convene_fine, leave_channels_fine, disband_fine, admit_fine, expel_fine}
use Rattle.domain.proofs.invariant.Arrives.{attach_fine, open_sound}
use Rattle.domain.proofs.invariant.Leavers.{detach_fine, close_fine}

module _ (d : Domain) (s : Sound d) where
  -- records that exceed the room leave the tables as they were
  sends_sound : (room n : ℕ) (e : Domain) (rs : List Sent) → Sound e → Sound (sends d room n e rs).domain
  unfolding sends
  sends_sound room n e rs x = go (ltb room (length (records rs)))
    where
      go : (b : Bool) → Sound (if b then stays d 9 else record { reply = n; domain = e; sent = rs }).domain
      go true = s
      go false = x

  -- an effect that leaves them sound
  ends_sound : (room : ℕ) (x : Effect Domain) → Fine x → Sound (ends d room x).domain
  unfolding ends
  ends_sound room ignored f = s
  ends_sound room (done e rs) f = sends_sound room 0 e rs f

  module _ (new : ℕ) (lo : 1001 ≤ new) (hi : new ≤ 65535) (away : (j : ℕ) → get_or d.channels.ids j 0 ≡ new → ⊥) where
    module _ (p : ℕ) (pl : p < 16) (open_p : has d.links p ≡ true) where
      -- the request of a message whose fields are in range
      act_fine : (m : Message) → Ranges m → Fine (act new d p m)
      unfolding act within please test
      act_fine (EDrq h i) f = s
      act_fine (DPum n) f = close_fine d s p
      act_fine (RJum n octets) f = close_fine d s p
      act_fine AUrq f = attach_fine d s new lo hi away p open_p
      act_fine (DUrq n ids) f = detach_fine d s p n ids
      act_fine (CJrq u c) f = join_fine new d s lo hi away p pl open_p u c
      act_fine (CLrq cs) f = leave_channels_fine d s p cs
      act_fine (CCrq u) f = convene_fine new d s lo hi away p pl open_p u
      act_fine (CDrq u c) f = disband_fine d s p u c
      act_fine (CArq u c ids) f = admit_fine d s p u c ids
      act_fine (CErq u c ids) f = expel_fine d s p u c ids
      act_fine (TGrq u k) f = grab_fine d s k f.1.least f.1.most p u
      act_fine (TIrq u k) f = inhibit_fine d s k f.1.least f.1.most p u
      act_fine (TVrq u k r) f = offer_fine d s k f.1.least f.1.most p u r
      act_fine (TVrs n r k) f = answer_fine d s k f.2.least f.2.most p r n
      act_fine (TPrq u k) f = from_fine (put_tokens d) d s p u _ (λ i w. s)
      act_fine (TRrq u k) f = release_fine d s k f.1.least f.1.most p u
      act_fine (TTrq u k) f = from_fine (put_tokens d) d s p u _ (λ i w. s)
      act_fine (AUcf n u) f = tt
      act_fine (DUin n ids) f = tt
      act_fine (CJcf n u c e) f = tt
      act_fine (CCcf n u c) f = tt
      act_fine (CDin c) f = tt
      act_fine (CAin u c ids) f = tt
      act_fine (CEin c ids) f = tt
      act_fine (TGcf n u k st) f = tt
      act_fine (TIcf n u k st) f = tt
      act_fine (TVcf n u k st) f = tt
      act_fine (TRcf n u k st) f = tt
      act_fine (TVin g k r) f = tt
      act_fine (TPin u k) f = tt
      act_fine (TTcf u k st) f = tt

      -- a message, or octets that are none
      answers_sound : (m : Reading) (room : ℕ) → formed (hears p m) ≡ true → Sound (answers new d p m room).domain
      unfolding answers formed
      answers_sound (reads m) room f = ends_sound room (act new d p m) (act_fine m (ranges m f))
      answers_sound (refuses n octets) room f = sends_sound room n d (complaint n p octets) s

    -- one event
    pub sound_step : (e : Event) (room : ℕ) → formed e ≡ true → Sound (step_with new d e room).domain
    unfolding step_with
    sound_step (opens p) room f = go (ltb 15 p) (has d.links p)
      where
        go : (a b : Bool) → Sound (if a then stays d 2 else if b then stays d 3 else record { reply = 0; domain = put_links d (with connections d.links p); sent = [] }).domain
        go true b = s
        go false true = s
        go false false = open_sound d s p
    sound_step (loses p) room f = go (ltb 15 p || not (has d.links p))
      where
        go : (a : Bool) → Sound (if a then stays d 2 else ends d room (close d p)).domain
        go true = s
        go false = ends_sound room (close d p) (close_fine d s p)
    sound_step (hears p m) room f = go (ltb 15 p || not (has d.links p)) refl
      where
        go : (a : Bool) → (ltb 15 p || not (has d.links p)) ≡ a → Sound (if a then stays d 2 else answers new d p m room).domain
        go true e = s
        go false e = let r = or_parts (ltb 15 p) (not (has d.links p)) e in answers_sound p (suc-le-suc (ltb-false 15 p r.0)) (not-false _ r.1) m room f
