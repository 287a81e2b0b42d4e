-- Every event, on tables that say the same: the same reply, the same records, and tables that say the same. Assumes nothing.
use mathlib.Core.Path.{◌≡◌, refl, sym, ap, ◌∙◌}
use mathlib.Core.Bool.{Bool, true, not, ◌||◌}
use mathlib.Core.List.{List}
use Prim.Native.Nat.{ℕ, ◌≤◌}
use native.Mathlib.Omega.{arith}
use lib.Dec.{ltb}
use lib.ListN.{length, get_or}
use borrow.Author.Tests.{not-true}
use Rattle.cols_spec.specs.Sets.{has, with, connections}
use Rattle.cols_spec.specs.Places.{find, found}
use Rattle.cols_spec.proofs.Bools.{and_parts}
use Rattle.cols_spec.proofs.Rows.{not_there}
use Rattle.codec_table.specs.Named.{Message, EDrq, DPum, RJum, AUrq, AUcf, DUrq, DUin, CJrq, CJcf, CLrq, CCrq, CCcf, CDrq, CDin, CArq, CAin, CErq, CEin}
use Rattle.codec_table.specs.Named.{TGrq, TGcf, TIrq, TIcf, TVrq, TVin, TVrs, TVcf, TPrq, TPin, TRrq, TRcf, TTrq, TTcf}
use Rattle.codec_table.proofs.NamedLaws.{Ranges, ranges}
use Rattle.out_records.specs.Records.{Sent, records}
use Rattle.domain.specs.Tables.{Channels, Tokens, Domain, put_channels, put_tokens, between, grant}
use Rattle.domain.specs.Effects.{Effect, within}
use Rattle.domain.specs.Events.{act, Event, opens, loses, hears, Reading, reads, refuses, stays, sends, ends, answers, step_with, step}
use Rattle.domain.specs.Claims.{formed}
use Rattle.domain_laws.specs.Same.{Same, Alike, SameStepWith, SameStep}
use Rattle.domain.proofs.invariant.Sound.{Sound, between_is}
use Rattle.domain.proofs.invariant.GoodIsSound.{good_sound}
use Rattle.domain.proofs.invariant.Invariant.{grant_free}
use Rattle.domain_laws.proofs.same.Requests.{Both, skip, both, both_within}
use Rattle.domain_laws.proofs.same.Holdings.{either}
use Rattle.domain_laws.proofs.same.Passing.{TokensSame, grab_both, inhibit_both, release_both, offer_both, answer_both, please_both, test_both}
use Rattle.domain_laws.proofs.same.Kinds.{channels_found, grant_same}
use Rattle.domain_laws.proofs.same.Leaving.{detach_both, close_both}
use Rattle.domain_laws.proofs.same.Joins.{ChannelsSame, join_both, convene_both, leave_channels_both, disband_both, admit_both, expel_both}
use Rattle.domain_laws.proofs.same.Arrives.{attach_both}

module _ (d e : Domain) (s : Sound d) (r : Sound e) (x : Same d e) where
  -- what is answered without a change, and with the records that fit the room
  stays_alike : (n : ℕ) → Alike (stays d n) (stays e n)
  stays_alike n = record { reply = refl; sent = refl; tables = x }

  sends_alike : (room n : ℕ) (a b : Domain) {rs ss : List Sent} → rs ≡ ss → Same a b → Alike (sends d room n a rs) (sends e room n b ss)
  unfolding sends
  sends_alike room n a b {rs} {ss} q y = either Alike (ltb room (length (records rs))) (ltb room (length (records ss))) (ap (λ (l : List Sent). ltb room (length (records l))) q)
      (stays_alike 9) (record { reply = refl; sent = q; tables = y })

  ends_alike : (room : ℕ) {y z : Effect Domain} → Both Same y z → Alike (ends d room y) (ends e room z)
  unfolding ends
  ends_alike room skip = stays_alike 1
  ends_alike room (both {a} {b} q y) = sends_alike room 0 a b q y

  -- a request about tokens or channels
  of_tokens : {y z : Effect Tokens} → Both (TokensSame d.users e.users) y z → Both Same (within (put_tokens d) y) (within (put_tokens e) z)
  of_tokens = both_within Same (put_tokens d) (put_tokens e) (λ a b h. record { limits = x.limits; links = x.links; users = x.users; channels = x.channels; tokens = h })

  of_channels : {y z : Effect Channels} → Both (ChannelsSame d.users e.users) y z → Both Same (within (put_channels d) y) (within (put_channels e) z)
  of_channels = both_within Same (put_channels d) (put_channels e) (λ a b h. record { limits = x.limits; links = x.links; users = x.users; channels = h; tokens = x.tokens })

  module _ (new : ℕ) (lo : 1001 ≤ new) (away : (j : ℕ) → get_or d.channels.ids j 0 ≡ new → ⊥) (away' : (j : ℕ) → get_or e.channels.ids j 0 ≡ new → ⊥) where
    act_both : (p : ℕ) (m : Message) → Ranges m → Both Same (act new d p m) (act new e p m)
    unfolding act
    act_both p (EDrq h i) f = both refl x
    act_both p (DPum n) f = close_both d e s r x p
    act_both p (RJum n octets) f = close_both d e s r x p
    act_both p AUrq f = attach_both d e s r x new p (omega arith) away away'
    act_both p (DUrq n ids) f = detach_both d e s r x p n ids
    act_both p (CJrq u c) f = of_channels (join_both d e s r x new lo away away' p u c)
    act_both p (CLrq cs) f = of_channels (leave_channels_both d e s r x p cs)
    act_both p (CCrq u) f = of_channels (convene_both d e s r x new lo away away' p u)
    act_both p (CDrq u c) f = of_channels (disband_both d e s r x p u c)
    act_both p (CArq u c ids) f = of_channels (admit_both d e s r x p u c ids)
    act_both p (CErq u c ids) f = of_channels (expel_both d e s r x p u c ids)
    act_both p (TGrq u k) f = of_tokens (grab_both d e s r x k f.1.least p u)
    act_both p (TIrq u k) f = of_tokens (inhibit_both d e s r x k f.1.least p u)
    act_both p (TVrq u k v) f = of_tokens (offer_both d e s r x k f.1.least p u v)
    act_both p (TVrs n v k) f = of_tokens (answer_both d e s r x k f.2.least p v n)
    act_both p (TPrq u k) f = of_tokens (please_both d e s r x p u k)
    act_both p (TRrq u k) f = of_tokens (release_both d e s r x k f.1.least p u)
    act_both p (TTrq u k) f = of_tokens (test_both d e s r x p u k)
    act_both p (AUcf n u) f = skip
    act_both p (DUin n ids) f = skip
    act_both p (CJcf n u c o) f = skip
    act_both p (CCcf n u c) f = skip
    act_both p (CDin c) f = skip
    act_both p (CAin u c ids) f = skip
    act_both p (CEin c ids) f = skip
    act_both p (TGcf n u k st) f = skip
    act_both p (TIcf n u k st) f = skip
    act_both p (TVcf n u k st) f = skip
    act_both p (TRcf n u k st) f = skip
    act_both p (TVin g k v) f = skip
    act_both p (TPin u k) f = skip
    act_both p (TTcf u k st) f = skip

    answers_alike : (p : ℕ) (m : Reading) (room : ℕ) → formed (hears p m) ≡ true → Alike (answers new d p m room) (answers new e p m room)
    unfolding answers formed
    answers_alike p (reads m) room f = ends_alike room (act_both p m (ranges m f))
    answers_alike p (refuses n octets) room f = sends_alike room n d e refl x

    -- is p open in both
    open_same : (p : ℕ) → has d.links p ≡ has e.links p
    open_same p = ap (λ (m : ℕ). has m p) x.links

    shut_same : (p : ℕ) → (ltb 15 p || not (has d.links p)) ≡ (ltb 15 p || not (has e.links p))
    shut_same p = ap (λ (b : Bool). ltb 15 p || not b) (open_same p)

    step_alike : (v : Event) (room : ℕ) → formed v ≡ true → Alike (step_with new d v room) (step_with new e v room)
    unfolding step_with
    step_alike (opens p) room f = either Alike (ltb 15 p) _ refl (stays_alike 2) (either Alike (has d.links p) (has e.links p) (open_same p) (stays_alike 3) (record {
      reply = refl;
      sent = refl;
      tables = record { limits = x.limits; links = ap (λ (m : ℕ). with connections m p) x.links; users = x.users; channels = x.channels; tokens = x.tokens };
    }))
    step_alike (loses p) room f = either Alike _ _ (shut_same p) (stays_alike 2) (ends_alike room (close_both d e s r x p))
    step_alike (hears p m) room f = either Alike _ _ (shut_same p) (stays_alike 2) (answers_alike p m room f)

-- for any free new id from 1001
pub steps_with : SameStepWith
steps_with d e new v room g h x f free =
    let s = good_sound d g in
    let r = good_sound e h in
    let q = and_parts (between 1001 65535 new) (not (found (find d.channels.ids new))) free in
    let b = between_is 1001 65535 new q.0 in
    let none = not-true _ q.1 in
    step_alike d e s r x new b.0 (not_there d.channels.ids new none (omega (arith, b.0))) (not_there e.channels.ids new (sym (channels_found d e s r x new) ∙ none) (omega (arith, b.0))) v room f

-- and for the one that is granted, which is the same
pub steps : SameStep
unfolding step
steps d e v room g h x f = rw (← grant_same d e (good_sound d g) (good_sound e h) x) (steps_with d e (grant d.channels) v room g h x f (grant_free d g))
