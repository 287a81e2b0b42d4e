-- What an event sends from sound tables is read back: every message is formed and short enough. Assumes nothing.
use Rattle.std.specs.Prelude.{if◌then◌else◌}
use mathlib.Core.Path.{◌≡◌}
use mathlib.Core.Bool.{Bool, true, false, not, ◌||◌}
use mathlib.Core.List.{List, []}
use Prim.Native.Nat.{ℕ}
use native.Mathlib.Omega.{arith}
use lib.Dec.{eqb, ltb}
use lib.ListN.{length}
use Rattle.codec_octets.specs.Octets.{Bytes}
use Rattle.cols_spec.specs.Sets.{has, with, connections}
use Rattle.codec_table.specs.Named.{Message, EDrq, DPum, RJum, AUrq, AUcf, DUrq, DUin, CJrq, CJcf, CLrq, CCrq, CCcf, CDrq, CDin, CArq, CAin, CErq, CEin}
use Rattle.codec_table.specs.Named.{TGrq, TGcf, TIrq, TIcf, TVrq, TVin, TVrs, TVcf, TPrq, TPin, TRrq, TRcf, TTrq, TTcf, formed}
use Rattle.codec_table.proofs.NamedLaws.{User, ranges}
use Rattle.out_records.specs.Records.{Sent, records}
use Rattle.domain.specs.Tables.{Domain, put_links, put_channels, put_tokens, put_both, grant}
use Rattle.domain.specs.Effects.{Effect, ignored, done}
use Rattle.domain.specs.Leaving.{close}
use Rattle.domain.specs.Events.{Reading, reads, refuses, Event, opens, loses, hears, stays, sends, ends, complaint, act, answers, step_with, step, users_full, channels_full, tokens_full}
use Rattle.domain.proofs.invariant.Sound.{Sound}
use Rattle.history.proofs.ReadBack.{Readables}
use Rattle.history.proofs.Readables.{RJum_readable}
use Rattle.history.proofs.Readables.{all_either}
use Rattle.history.proofs.Told.{Told, told_within, attach_told, convene_told, join_told, leave_channels_told, disband_told, take_told, share_told, drop_told, offer_told, please_told, test_told}
use Rattle.history.proofs.Tabled.{admit_told, expel_told, answer_told}
use Rattle.history.proofs.Parting.{detach_told, close_told}

-- a message with its fields in range, or octets below 256
abbrev pub Legible : Reading → Type 0
Legible (reads m) = formed m ≡ true
Legible (refuses n os) = Bytes os

-- an event that brings no other
abbrev pub ComesLegible : Event → Type 0
ComesLegible (opens p) = Unit {0}
ComesLegible (loses p) = Unit {0}
ComesLegible (hears p m) = Legible m

module _ (d : Domain) (s : Sound d) where
  -- ---- a request, by its message; `new` is the id of a new user or channel
  module _ (new : ℕ) (fresh_id : User new) where
    -- each message; those that may not go up are ignored
    act_told : (p : ℕ) (m : Message) → formed m ≡ true → Told (act new d p m)
    unfolding act
    act_told p (EDrq h i) f = tt
    act_told p (DPum n) f = close_told d s p
    act_told p (RJum n os) f = close_told d s p
    act_told p AUrq f = told_within (put_both d) _ (attach_told new fresh_id (users_full d) (channels_full d) d.users d.channels p)
    act_told p (DUrq n vs) f = let r = ranges (DUrq n vs) f in detach_told d s p n vs r.0.most r.1.few
    act_told p (CJrq u c) f = let r = ranges (CJrq u c) f in told_within (put_channels d) _ (join_told new fresh_id (channels_full d) d.users d.channels p u r.0 c r.1)
    act_told p (CLrq cs) f = told_within (put_channels d) _ (leave_channels_told d.channels p cs)
    act_told p (CCrq u) f = told_within (put_channels d) _ (convene_told new fresh_id (channels_full d) d.users d.channels p u (ranges (CCrq u) f))
    act_told p (CDrq u c) f = told_within (put_channels d) _ (disband_told d.users d.channels p u c (ranges (CDrq u c) f).1)
    act_told p (CArq u c vs) f = let r = ranges (CArq u c vs) f in told_within (put_channels d) _ (admit_told d s p u c vs r.2.few r.1 r.0)
    act_told p (CErq u c vs) f = let r = ranges (CErq u c vs) f in told_within (put_channels d) _ (expel_told d s p u c vs r.2.few r.1)
    act_told p (TGrq u k) f = let r = ranges (TGrq u k) f in told_within (put_tokens d) _ (take_told d.users d.tokens p u k r.0 r.1 (tokens_full d))
    act_told p (TIrq u k) f = let r = ranges (TIrq u k) f in told_within (put_tokens d) _ (share_told d.users d.tokens p u k r.0 r.1 (tokens_full d))
    act_told p (TVrq u k v) f = let r = ranges (TVrq u k v) f in told_within (put_tokens d) _ (offer_told d.users d.tokens p u k r.0 r.1 v r.2)
    act_told p (TVrs n v k) f = let r = ranges (TVrs n v k) f in told_within (put_tokens d) _ (answer_told d s p n v k r.0.most r.2)
    act_told p (TPrq u k) f = let r = ranges (TPrq u k) f in told_within (put_tokens d) _ (please_told d.users d.tokens p u k r.0 r.1)
    act_told p (TRrq u k) f = let r = ranges (TRrq u k) f in told_within (put_tokens d) _ (drop_told d.users d.tokens p u k r.0 r.1)
    act_told p (TTrq u k) f = let r = ranges (TTrq u k) f in told_within (put_tokens d) _ (test_told d.users d.tokens p u k r.0 r.1)
    act_told p (AUcf n u) f = tt
    act_told p (DUin n vs) f = tt
    act_told p (CJcf n u a c) f = tt
    act_told p (CCcf n u c) f = tt
    act_told p (CDin c) f = tt
    act_told p (CAin u c vs) f = tt
    act_told p (CEin c vs) f = tt
    act_told p (TGcf n u k t) f = tt
    act_told p (TIcf n u k t) f = tt
    act_told p (TVcf n u k t) f = tt
    act_told p (TRcf n u k t) f = tt
    act_told p (TVin g k r) f = tt
    act_told p (TPin u k) f = tt
    act_told p (TTcf u k t) f = tt

  -- ---- an event
  -- what is sent where there is room
  sends_readable : (room n : ℕ) (e : Domain) (rs : List Sent) → Readables rs → Readables (sends d room n e rs).sent
  unfolding sends
  sends_readable room n e rs h = go (ltb room (length (records rs)))
    where
      go : (b : Bool) → Readables (if b then stays d 9 else record { reply = n; domain = e; sent = rs }).sent
      go true = tt
      go false = h

  -- what comes of a request
  ends_readable : (room : ℕ) (x : Effect Domain) → Told x → Readables (ends d room x).sent
  unfolding ends
  ends_readable room ignored h = tt
  ends_readable room (done e rs) h = sends_readable room 0 e rs h

  -- RJum with the first octets of a message
  complaint_readable : (n p : ℕ) (os : List ℕ) → Bytes os → Readables (complaint n p os)
  unfolding complaint
  complaint_readable n p os y =
      all_either (eqb n 5) _ _ (RJum_readable _ os (omega arith) y, tt) (all_either (eqb n 6) _ _ (RJum_readable _ os (omega arith) y, tt) tt)

  module _ (fresh_id : User (grant d.channels)) where
    -- a message, or a refusal
    answers_readable : (p : ℕ) (m : Reading) (room : ℕ) → Legible m → Readables (answers (grant d.channels) d p m room).sent
    unfolding answers
    answers_readable p (reads m) room l = ends_readable room _ (act_told (grant d.channels) fresh_id p m l)
    answers_readable p (refuses n os) room l = sends_readable room n d (complaint n p os) (complaint_readable n p os l)

    -- every event, with any room
    pub sent_readable : (e : Event) (room : ℕ) → ComesLegible e → Readables (step d e room).sent
    unfolding step step_with
    sent_readable (opens p) room l = go (ltb 15 p) (has d.links p)
      where
        go : (a b : Bool) → Readables (if a then stays d 2 else if b then stays d 3 else record { reply = 0; domain = put_links d (with connections d.links p); sent = [] }).sent
        go true b = tt
        go false true = tt
        go false false = tt
    sent_readable (loses p) room l = go (ltb 15 p || not (has d.links p))
      where
        go : (a : Bool) → Readables (if a then stays d 2 else ends d room (close d p)).sent
        go true = tt
        go false = ends_readable room (close d p) (close_told d s p)
    sent_readable (hears p m) room l = go (ltb 15 p || not (has d.links p))
      where
        go : (a : Bool) → Readables (if a then stays d 2 else answers (grant d.channels) d p m room).sent
        go true = tt
        go false = answers_readable p m room l
