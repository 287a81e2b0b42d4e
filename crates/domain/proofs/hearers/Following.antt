-- Every event keeps the relation between history and the tables of users and channels. Assumes nothing.
use Rattle.std.specs.Prelude.{if◌then◌else◌}
use mathlib.Core.Path.{◌≡◌, refl}
use mathlib.Core.Bool.{Bool, true, false, not, ◌||◌}
use mathlib.Core.List.{[]}
use Prim.Native.Nat.{ℕ, ◌≤◌}
use lib.Dec.{ltb}
use lib.ListN.{length, get_or}
use Rattle.cols_spec.specs.Sets.{has, with, all, connections}
use Rattle.codec_table.specs.Named.{Message, EDrq, DPum, RJum, AUrq, AUcf, DUrq, DUin, CJrq, CJcf, CLrq, CCrq, CCcf, CDrq, CDin, CArq, CAin, CErq, CEin}
use Rattle.codec_table.specs.Named.{TGrq, TGcf, TIrq, TIcf, TVrq, TVin, TVrs, TVcf, TPrq, TPin, TRrq, TRcf, TTrq, TTcf}
use Rattle.out_records.specs.Records.{records}
use Rattle.domain.specs.Tables.{Domain, put_links, FreeId}
use Rattle.domain.specs.Leaving.{close}
use Rattle.domain.specs.Events.{tokens_full, Event, opens, loses, hears, Reading, reads, refuses, act, ends, sends, stays, answers, complaint, step_with}
use Rattle.domain.specs.History.{History}
use Rattle.domain.specs.Hearers.{event_opens}
use Rattle.domain.proofs.invariant.Sound.{Sound, free_parts}
use Rattle.domain.proofs.hearers.Recalls.{Recalls, Went, Fine, quiet, stay, ends_fine, not_opened}
use Rattle.domain.proofs.hearers.Hushed.{complaint_hushed, tokens_fine, take_hush, share_hush, drop_hush, offer_hush, answer_hush, please_hush, test_hush}
use Rattle.domain.proofs.hearers.Joining.{join_fine, leave_channels_fine, convene_fine, disband_fine}
use Rattle.domain.proofs.hearers.Naming.{admit_fine, expel_fine}
use Rattle.domain.proofs.hearers.Coming.{open_fine, attach_fine}
use Rattle.domain.proofs.hearers.Leaving.{detach_fine, close_fine}

module _ (h : History) (d : Domain) (s : Sound d) (a : Recalls h d.users d.channels) (new : ℕ) (lo : 1001 ≤ new) (away : (j : ℕ) → get_or d.channels.ids j 0 ≡ new → ⊥) where
  -- a message on a connection opens none
  heard_opens : (p : ℕ) (m : Reading) (q : ℕ) → event_opens (hears p m) q ≡ false
  unfolding event_opens
  heard_opens p m q = refl

  -- each message by its request
  act_fine : (p : ℕ) (m : Message) → Fine h (hears p (reads m)) (act new d p m)
  unfolding act all
  act_fine p (EDrq x y) = quiet h d a _ (record { reply = 0; domain = d; sent = [] }) (not_opened _ (heard_opens p _)) refl refl refl
  act_fine p (DPum n) = close_fine h d s a _ (heard_opens p _) p
  act_fine p (RJum n octets) = close_fine h d s a _ (heard_opens p _) p
  act_fine p AUrq = attach_fine h d s a _ (heard_opens p _) p new lo away
  act_fine p (DUrq n ids) = detach_fine h d s a _ (heard_opens p _) p n ids
  act_fine p (CJrq u c) = join_fine h d s a _ (heard_opens p _) p u c new lo away
  act_fine p (CLrq cs) = leave_channels_fine h d s a _ (heard_opens p _) p cs
  act_fine p (CCrq u) = convene_fine h d s a _ (heard_opens p _) p u new lo away
  act_fine p (CDrq u c) = disband_fine h d s a _ (heard_opens p _) p u c
  act_fine p (CArq u c ids) = admit_fine h d s a _ (heard_opens p _) p u c ids
  act_fine p (CErq u c ids) = expel_fine h d s a _ (heard_opens p _) p u c ids
  act_fine p (TGrq u k) = tokens_fine h d a _ (heard_opens p _) _ (take_hush d.users d.tokens p u k (tokens_full d))
  act_fine p (TIrq u k) = tokens_fine h d a _ (heard_opens p _) _ (share_hush d.users d.tokens p u k (tokens_full d))
  act_fine p (TVrq u k r) = tokens_fine h d a _ (heard_opens p _) _ (offer_hush d.users d.tokens p u k r)
  act_fine p (TVrs n r k) = tokens_fine h d a _ (heard_opens p _) _ (answer_hush d.users d.tokens p n r k)
  act_fine p (TPrq u k) = tokens_fine h d a _ (heard_opens p _) _ (please_hush d.users d.tokens p u k)
  act_fine p (TRrq u k) = tokens_fine h d a _ (heard_opens p _) _ (drop_hush d.users d.tokens p u k)
  act_fine p (TTrq u k) = tokens_fine h d a _ (heard_opens p _) _ (test_hush d.users d.tokens p u k)
  act_fine p (AUcf n u) = tt
  act_fine p (DUin n ids) = tt
  act_fine p (CJcf n u c e) = tt
  act_fine p (CCcf n u c) = tt
  act_fine p (CDin c) = tt
  act_fine p (CAin u c ids) = tt
  act_fine p (CEin c ids) = tt
  act_fine p (TGcf n u k t) = tt
  act_fine p (TIcf n u k t) = tt
  act_fine p (TVcf n u k t) = tt
  act_fine p (TRcf n u k t) = tt
  act_fine p (TVin x k r) = tt
  act_fine p (TPin u k) = tt
  act_fine p (TTcf u k t) = tt

  -- each event
  follows : (e : Event) (room : ℕ) → Went h e (step_with new d e room)
  unfolding step_with answers sends event_opens
  follows (opens p) room = go (ltb 15 p) (has d.links p) refl
    where
      go : (b c : Bool) → has d.links p ≡ c → Went h (opens p) (if b then stays d 2 else if c then stays d 3 else record { reply = 0; domain = put_links d (with connections d.links p); sent = [] })
      go true c e = stay h d a _ 2 refl
      go false true e = stay h d a _ 3 refl
      go false false e = open_fine h d s a p e
  follows (loses p) room = go (ltb 15 p || not (has d.links p))
    where
      go : (b : Bool) → Went h (loses p) (if b then stays d 2 else ends d room (close d p))
      go true = stay h d a _ 2 refl
      go false = ends_fine h d a _ room (close d p) (close_fine h d s a _ (λ q. refl) p)
  follows (hears p (reads m)) room = go (ltb 15 p || not (has d.links p))
    where
      go : (b : Bool) → Went h (hears p (reads m)) (if b then stays d 2 else ends d room (act new d p m))
      go true = stay h d a _ 2 refl
      go false = ends_fine h d a _ room (act new d p m) (act_fine p m)
  follows (hears p (refuses n octets)) room = go (ltb 15 p || not (has d.links p)) (ltb room (length (records (complaint n p octets))))
    where
      go : (b c : Bool) → Went h (hears p (refuses n octets)) (if b then stays d 2 else if c then stays d 9 else record { reply = n; domain = d; sent = complaint n p octets })
      go true c = stay h d a _ 2 refl
      go false true = stay h d a _ 9 refl
      go false false = quiet h d a _ (record { reply = n; domain = d; sent = complaint n p octets }) (not_opened _ (heard_opens p (refuses n octets))) (complaint_hushed n p octets) refl refl

-- for any maker's choice of a new id
pub recalls_step : (h : History) (d : Domain) → Sound d → Recalls h d.users d.channels → (new : ℕ)
    → FreeId d new → (e : Event) (room : ℕ) → Went h e (step_with new d e room)
recalls_step h d s a new free e room =
    let b = free_parts d new free in
    follows h d s a new b.0 b.2 e room
