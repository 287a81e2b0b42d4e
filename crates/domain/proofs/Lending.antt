-- No event changes the limits. So a caller that lends a limit of users equal to the domain's, and puts it back behind the call, has made that call alone.
-- No code does so: the two answers that are given by this hold for any such limit, so that an edit that lends another is refused for the limit. Assumes nothing.
use Rattle.std.specs.Prelude.{if◌then◌else◌}
use mathlib.Core.Path.{◌≡◌, refl, sym, ap, ◌∙◌}
use mathlib.Core.Bool.{Bool, true, false, not, ◌||◌}
use mathlib.Core.List.{List, []}
use Prim.Native.Nat.{ℕ}
use lib.Dec.{ltb}
use lib.ListN.{length}
use Rattle.cols_spec.specs.Sets.{null, once, has, with, connections}
use Rattle.codec_table.specs.Named.{Message, EDrq, DPum, RJum, AUrq, AUcf, DUrq, DUin, CJrq, CJcf, CLrq, CCrq, CCcf, CDrq, CDin, CArq, CAin, CErq, CEin}
use Rattle.codec_table.specs.Named.{TGrq, TGcf, TIrq, TIcf, TVrq, TVin, TVrs, TVcf, TPrq, TPin, TRrq, TRcf, TTrq, TTcf}
use Rattle.out_records.specs.Records.{Sent, records}
use Rattle.domain.specs.declared.Limits.{Limits}
use Rattle.domain.specs.Tables.{Domain, put_links, put_channels, put_tokens, put_both, grant}
use Rattle.domain.specs.Effects.{Effect, ignored, done, within, Settled, settled, settle}
use Rattle.domain.specs.Leaving.{leave, those_on, detach, close}
use Rattle.domain.specs.Events.{act, Event, opens, loses, hears, reads, refuses, stays, sends, ends, complaint, answers, step_with, step}
use Rattle.domain.specs.Outcomes.{step_settled, after}
use Rattle.domain.proofs.Turning.{ends_turned}

-- what is done keeps the limits l
abbrev Keeps : Limits → Effect Domain → Type 0
Keeps l ignored = Unit {0}
Keeps l (done d rs) = d.limits ≡ l

within_keeps : {A : Type 0} (put : (A → Domain)) (l : Limits) → ((a : A) → (put a).limits ≡ l) → (x : Effect A) → Keeps l (within put x)
unfolding within
within_keeps put l q ignored = tt
within_keeps put l q (done a rs) = q a

leave_keeps : (d : Domain) (live reason : ℕ) (ids : List ℕ) → Keeps d.limits (leave d live reason ids)
unfolding leave
leave_keeps d live reason ids = refl

detach_keeps : (d : Domain) (p reason : ℕ) (ids : List ℕ) → Keeps d.limits (detach d p reason ids)
unfolding detach
detach_keeps d p reason ids = go (null (those_on d.users p (once ids)))
  where
    go : (b : Bool) → Keeps d.limits (if b then ignored else leave d d.links reason (those_on d.users p (once ids)))
    go true = tt
    go false = leave_keeps d d.links reason (those_on d.users p (once ids))

close_keeps : (d : Domain) (p : ℕ) → Keeps d.limits (close d p)
unfolding close
close_keeps d p = leave_keeps d _ _ _

act_keeps : (new : ℕ) (d : Domain) (p : ℕ) (m : Message) → Keeps d.limits (act new d p m)
unfolding act
act_keeps new d p (EDrq h i) = refl
act_keeps new d p (DPum n) = close_keeps d p
act_keeps new d p (RJum n octets) = close_keeps d p
act_keeps new d p AUrq = within_keeps (put_both d) _ (λ a. refl) _
act_keeps new d p (DUrq n ids) = detach_keeps d p n ids
act_keeps new d p (CJrq u c) = within_keeps (put_channels d) _ (λ a. refl) _
act_keeps new d p (CLrq cs) = within_keeps (put_channels d) _ (λ a. refl) _
act_keeps new d p (CCrq u) = within_keeps (put_channels d) _ (λ a. refl) _
act_keeps new d p (CDrq u c) = within_keeps (put_channels d) _ (λ a. refl) _
act_keeps new d p (CArq u c ids) = within_keeps (put_channels d) _ (λ a. refl) _
act_keeps new d p (CErq u c ids) = within_keeps (put_channels d) _ (λ a. refl) _
act_keeps new d p (TGrq u k) = within_keeps (put_tokens d) _ (λ a. refl) _
act_keeps new d p (TIrq u k) = within_keeps (put_tokens d) _ (λ a. refl) _
act_keeps new d p (TVrq u k r) = within_keeps (put_tokens d) _ (λ a. refl) _
act_keeps new d p (TVrs n r k) = within_keeps (put_tokens d) _ (λ a. refl) _
act_keeps new d p (TPrq u k) = within_keeps (put_tokens d) _ (λ a. refl) _
act_keeps new d p (TRrq u k) = within_keeps (put_tokens d) _ (λ a. refl) _
act_keeps new d p (TTrq u k) = within_keeps (put_tokens d) _ (λ a. refl) _
act_keeps new d p (AUcf n u) = tt
act_keeps new d p (DUin n ids) = tt
act_keeps new d p (CJcf n u c e) = tt
act_keeps new d p (CCcf n u c) = tt
act_keeps new d p (CDin c) = tt
act_keeps new d p (CAin u c ids) = tt
act_keeps new d p (CEin c ids) = tt
act_keeps new d p (TGcf n u k s) = tt
act_keeps new d p (TIcf n u k s) = tt
act_keeps new d p (TVcf n u k s) = tt
act_keeps new d p (TRcf n u k s) = tt
act_keeps new d p (TVin g k r) = tt
act_keeps new d p (TPin u k) = tt
act_keeps new d p (TTcf u k s) = tt

sends_keeps : (d : Domain) (room n : ℕ) (e : Domain) (rs : List Sent) → e.limits ≡ d.limits → (sends d room n e rs).domain.limits ≡ d.limits
unfolding sends
sends_keeps d room n e rs q = go (ltb room (length (records rs)))
  where
    go : (b : Bool) → (if b then stays d 9 else record { reply = n; domain = e; sent = rs }).domain.limits ≡ d.limits
    go true = refl
    go false = q

ends_keeps : (d : Domain) (room : ℕ) (x : Effect Domain) → Keeps d.limits x → (ends d room x).domain.limits ≡ d.limits
unfolding ends
ends_keeps d room ignored q = refl
ends_keeps d room (done e rs) q = sends_keeps d room 0 e rs q

-- every event keeps the limits
pub step_keeps : (new : ℕ) (d : Domain) (e : Event) (room : ℕ) → (step_with new d e room).domain.limits ≡ d.limits
unfolding step_with answers
step_keeps new d (opens p) room = go (ltb 15 p) (has d.links p)
  where
    go : (a b : Bool) → (if a then stays d 2 else if b then stays d 3 else record { reply = 0; domain = put_links d (with connections d.links p); sent = [] }).domain.limits ≡ d.limits
    go true b = refl
    go false true = refl
    go false false = refl
step_keeps new d (loses p) room = go (ltb 15 p || not (has d.links p))
  where
    go : (a : Bool) → (if a then stays d 2 else ends d room (close d p)).domain.limits ≡ d.limits
    go true = refl
    go false = ends_keeps d room (close d p) (close_keeps d p)
step_keeps new d (hears p (reads m)) room = go (ltb 15 p || not (has d.links p))
  where
    go : (a : Bool) → (if a then stays d 2 else ends d room (act new d p m)).domain.limits ≡ d.limits
    go true = refl
    go false = ends_keeps d room (act new d p m) (act_keeps new d p m)
step_keeps new d (hears p (refuses n octets)) room = go (ltb 15 p || not (has d.links p))
  where
    go : (a : Bool) → (if a then stays d 2 else sends d room n d (complaint n p octets)).domain.limits ≡ d.limits
    go true = refl
    go false = sends_keeps d room n d (complaint n p octets) refl

pub event_keeps : (e : Event) (out : List ℕ) (d : Domain) → (after d e out).tables.limits ≡ d.limits
unfolding after step step_settled
event_keeps e out d = step_keeps (grant d.channels) d e (length out)

pub request_keeps : (p : ℕ) (m : Message) (out : List ℕ) (d : Domain) → (settle d (act (grant d.channels) d p m) out).tables.limits ≡ d.limits
unfolding step_settled
request_keeps p m out d =
    let x = act (grant d.channels) d p m in
    ap (λ (s : Settled Domain). s.tables.limits) (ends_turned d x out) ∙ ends_keeps d (length out) x (act_keeps (grant d.channels) d p m)

-- what is done to a domain, and keeps its limits: an event, and a request on an open connection
pub record Keeper : Type 0 where
  pub does : Domain → Settled Domain
  pub keeps : (d : Domain) → (does d).tables.limits ≡ d.limits

abbrev pub event : (e : Event) (out : List ℕ) → Keeper
event e out = record { does = λ d. after d e out; keeps = event_keeps e out }

abbrev pub request : (p : ℕ) (m : Message) (out : List ℕ) → Keeper
request p m out = record { does = λ d. settle d (act (grant d.channels) d p m) out; keeps = request_keeps p m out }

-- a call that does it: the domain it is made on, and the domain it leaves
pub record Call (k : Keeper) (r s : ℕ) (o : List ℕ) : Type 0 where
  pub on : Domain
  pub left : Domain
  pub ends : settled r s left o ≡ k.does on

-- the domain with another limit of users
abbrev pub with_users_limit : Domain → ℕ → Domain
with_users_limit d n = record {
  limits = record { channels = d.limits.channels; users = n; tokens = d.limits.tokens };
  links = d.links;
  users = d.users;
  channels = d.channels;
  tokens = d.tokens;
}

-- A caller whose domain is d makes the call on d, and keeps as e what the call leaves, each but for the limit of users: `refl`, where it writes nothing else.
-- Where the limit lent is that of d, and that of e is too if the call kept it, the caller's answer, e and the room are what k does to d.
pub put_back : (k : Keeper) {r s : ℕ} {o : List ℕ} (d e : Domain) (c : Call k r s o) → with_users_limit c.on d.limits.users ≡ d → with_users_limit c.left e.limits.users ≡ e
    → c.on.limits.users ≡ d.limits.users → (c.left.limits.users ≡ d.limits.users → e.limits.users ≡ d.limits.users) → settled r s e o ≡ k.does d
put_back k {r} {s} {o} d e c on_d left_e lent back =
    let kept : c.left.limits.users ≡ d.limits.users = ap (λ (x : Settled Domain). x.tables.limits.users) c.ends ∙ ap (λ (l : Limits). l.users) (k.keeps c.on) ∙ lent in
    sym (ap (λ x. settled r s x o) (ap (with_users_limit c.left) (kept ∙ sym (back kept)) ∙ left_e)) ∙ c.ends ∙ ap k.does (ap (with_users_limit c.on) lent ∙ on_d)
