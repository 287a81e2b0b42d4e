-- Every event keeps the relation between history and tables. Assumes nothing.
use Rattle.std.specs.Prelude.{if◌then◌else◌}
use mathlib.Core.Path.{◌≡◌, refl}
use mathlib.Core.Bool.{Bool, true, false, not, ◌||◌, So}
use mathlib.Core.List.{List, []}
use Prim.Native.Nat.{ℕ, ◌<◌}
use native.Mathlib.Omega.{arith}
use lib.Dec.{ltb}
use lib.ListN.{length, get_or}
use Rattle.cols_spec.specs.Sets.{has, with, all, connections}
use Rattle.codec_table.specs.Named.{Message, EDrq, DPum, RJum, AUrq, AUcf, DUrq, DUin, CJrq, CJcf, CLrq, CCrq, CCcf, CDrq, CDin, CArq, CAin, CErq, CEin}
use Rattle.codec_table.specs.Named.{TGrq, TGcf, TIrq, TIcf, TVrq, TVin, TVrs, TVcf, TPrq, TPin, TRrq, TRcf, TTrq, TTcf, formed as formed_message}
use Rattle.codec_table.proofs.NamedLaws.{ranges}
use Rattle.out_records.specs.Records.{records}
use Rattle.domain.specs.Tables.{Domain, state, hosts, put_links, put_tokens, FreeId}
use Rattle.domain.specs.Events.{channels_full, Event, opens, loses, hears, reads, refuses, act, ends, sends, stays, answers, complaint, step_with}
use Rattle.domain.specs.Tokens.{party}
use Rattle.domain.specs.Effects.{within}
use Rattle.domain.specs.Passing.{please, test}
use Rattle.domain.specs.Leaving.{close}
use Rattle.domain.specs.Good.{Good}
use Rattle.domain.specs.History.{History, code, same, reading, asks, link_of}
use Rattle.domain.specs.Claims.{formed}
use Rattle.domain.proofs.Sending.{complaint_all}
use Rattle.domain.proofs.invariant.Sound.{Sound, free_parts}
use Rattle.domain.proofs.invariant.GoodIsSound.{good_sound}
use Rattle.domain.proofs.holders.Heard.{mute, mutes, idle_unread}
use Rattle.domain.proofs.holders.Agrees.{Agrees, Went, Fine, quiet, stay, calm, ends_fine, from_fine}
use Rattle.domain.proofs.holders.Requests.{take_fine, share_fine, drop_fine}
use Rattle.domain.proofs.holders.Offers.{offer_fine, answer_fine}
use Rattle.domain.proofs.holders.Silent.{tell_mute, join_fine, leave_channels_fine, convene_fine, disband_fine, admit_fine, expel_fine}
use Rattle.domain.proofs.holders.Departures.{detach_fine, close_fine}
use Rattle.domain.proofs.holders.Newcomers.{attach_fine}

module _ (h : History) (d : Domain) (g : Sound d) (a : Agrees h d.users d.tokens) (new : ℕ) (nz : 0 < new) (away : (j : ℕ) → get_or d.channels.ids j 0 ≡ new → ⊥) where
  act_fine : (p : ℕ) (m : Message) → formed_message m ≡ true → Fine h d (hears p (reads m)) (act new d p m)
  unfolding act reading asks link_of all mute mutes same code within please test
  act_fine p (EDrq x y) f = calm h d a _ refl d [] refl refl refl refl
  act_fine p (DPum n) f = close_fine h d g a _ p refl refl
  act_fine p (RJum n octets) f = close_fine h d g a _ p refl refl
  act_fine p AUrq f = attach_fine h d g a new p nz away
  act_fine p (DUrq n ids) f = detach_fine h d g a p n ids
  act_fine p (CJrq u c) f = join_fine h d a _ refl new (channels_full d) p u c
  act_fine p (CLrq cs) f = leave_channels_fine h d a _ refl p cs
  act_fine p (CCrq u) f = convene_fine h d a _ refl new (channels_full d) p u
  act_fine p (CDrq u c) f = disband_fine h d a _ refl p u c
  act_fine p (CArq u c ids) f = admit_fine h d a _ refl p u c ids
  act_fine p (CErq u c ids) f = expel_fine h d a _ refl p u c ids
  act_fine p (TGrq u k) f = take_fine h d g a p u k (ranges (TGrq u k) f).1.least
  act_fine p (TIrq u k) f = share_fine h d g a p u k (ranges (TIrq u k) f).1.least
  act_fine p (TVrq u k r) f = offer_fine h d g a p u k r (ranges (TVrq u k r) f).1.least
  act_fine p (TVrs n r k) f = answer_fine h d g a p n r k (ranges (TVrs n r k) f).2.least
  act_fine p (TPrq u k) f = from_fine h d a _ (put_tokens d) p u _ (λ i mine on. calm h d a _ refl (put_tokens d d.tokens) _ refl refl refl (tell_mute (hosts d.users (party (state d.tokens k))) (TPin u k) refl))
  act_fine p (TRrq u k) f = drop_fine h d g a p u k (ranges (TRrq u k) f).1.least
  act_fine p (TTrq u k) f = from_fine h d a _ (put_tokens d) p u _ (λ i mine on. calm h d a _ refl (put_tokens d d.tokens) _ refl refl refl refl)
  act_fine p (AUcf n u) f = tt
  act_fine p (DUin n ids) f = tt
  act_fine p (CJcf n u c e) f = tt
  act_fine p (CCcf n u c) f = tt
  act_fine p (CDin c) f = tt
  act_fine p (CAin u c ids) f = tt
  act_fine p (CEin c ids) f = tt
  act_fine p (TGcf n u k s) f = tt
  act_fine p (TIcf n u k s) f = tt
  act_fine p (TVcf n u k s) f = tt
  act_fine p (TRcf n u k s) f = tt
  act_fine p (TVin x k r) f = tt
  act_fine p (TPin u k) f = tt
  act_fine p (TTcf u k s) f = tt

  complaint_mute : (n p : ℕ) (octets : List ℕ) → all mute (complaint n p octets) ≡ true
  unfolding mute reading mutes same code
  complaint_mute = complaint_all mute (λ p n octets. refl)

  follows : (e : Event) (room : ℕ) → formed e ≡ true → Went h d e (step_with new d e room)
  unfolding step_with answers formed sends all asks link_of
  follows (opens p) room f = go (ltb 15 p) (has d.links p)
    where
      go : (b c : Bool) → Went h d (opens p) (if b then stays d 2 else if c then stays d 3 else record { reply = 0; domain = put_links d (with connections d.links p); sent = [] })
      go true c = stay h d a _ 2 refl
      go false true = stay h d a _ 3 refl
      go false false = quiet h d a _ _ (idle_unread _ refl) refl refl refl refl
  follows (loses p) room f = go (ltb 15 p || not (has d.links p))
    where
      go : (b : Bool) → Went h d (loses p) (if b then stays d 2 else ends d room (close d p))
      go true = stay h d a _ 2 refl
      go false = ends_fine h d a _ room (close d p) (close_fine h d g a _ p refl refl)
  follows (hears p (reads m)) room f = go (ltb 15 p || not (has d.links p))
    where
      go : (b : Bool) → Went h d (hears p (reads m)) (if b then stays d 2 else ends d room (act new d p m))
      go true = stay h d a _ 2 refl
      go false = ends_fine h d a _ room (act new d p m) (act_fine p m f)
  follows (hears p (refuses n octets)) room f = go (ltb 15 p || not (has d.links p)) (ltb room (length (records (complaint n p octets))))
    where
      go : (b c : Bool) → Went h d (hears p (refuses n octets)) (if b then stays d 2 else if c then stays d 9 else record { reply = n; domain = d; sent = complaint n p octets })
      go true c = stay h d a _ 2 refl
      go false true = stay h d a _ 9 refl
      go false false = quiet h d a _ _ (idle_unread _ refl) (complaint_mute n p octets) refl refl refl

-- for any maker's choice of a new id
pub agrees_step : (h : History) (d : Domain) → Good d → Agrees h d.users d.tokens → (new : ℕ)
    → FreeId d new → (e : Event) (room : ℕ) → So (formed e) → Went h d e (step_with new d e room)
agrees_step h d g a new free e room f =
    let b = free_parts d new free in
    follows h d (good_sound d g) a new (omega (arith, b.0)) b.2 e room f
