-- What every event sends, by any test that each kind of message that the machine sends passes. Assumes nothing.
use Rattle.std.specs.Prelude.{if◌then◌else◌}
use mathlib.Core.Path.{◌≡◌}
use mathlib.Core.Bool.{Bool, true, false, not, ◌||◌}
use mathlib.Core.List.{List, [], ◌∷◌}
use mathlib.Core.Option.{Option, none, some}
use Prim.Native.Nat.{ℕ, zero, suc}
use lib.Dec.{eqb, ltb}
use lib.ListN.{length}
use Rattle.cols_spec.specs.Sets.{all, any, null, once, has, with, connections, seats}
use Rattle.cols_spec.specs.Places.{Place, At, Nowhere, find}
use Rattle.codec_table.specs.Named.{Message, EDrq, DPum, RJum, AUrq, AUcf, DUrq, DUin, CJrq, CJcf, CLrq, CCrq, CCcf, CDrq, CDin, CArq, CAin, CErq, CEin}
use Rattle.codec_table.specs.Named.{TGrq, TGcf, TIrq, TIcf, TVrq, TVin, TVrs, TVcf, TPrq, TPin, TRrq, TRcf, TTrq, TTcf, successful, no_such_channel, too_many_channels, no_such_user}
use Rattle.out_records.specs.Records.{Sent, to, records}
use Rattle.domain.specs.declared.channel.Kind.{Kind}
use Rattle.domain.specs.declared.channel.Kind.TheVariants.{Static, User, Private, Assigned}
use Rattle.domain.specs.declared.token.Holding.{Holding}
use Rattle.domain.specs.declared.token.Holding.TheVariants.{Free, Grabbed, Inhibited, Giving, Given}
use Rattle.domain.specs.Cells.{kind}
use Rattle.domain.specs.Tables.{Users, Channels, Tokens, Domain, name, link, channel, hosts, state, set_token, put_links}
use Rattle.domain.specs.Tokens.{Turned, fails, turns, status, grabbed_by, offered_to, party}
use Rattle.domain.specs.Effects.{Effect, ignored, done, within}
use Rattle.domain.specs.Channels.{attach, may, join_at, join_new, join, joined, leave_channels, convene, owned, manages, disband, attached_of, admit, admitted_of, expel}
use Rattle.domain.specs.Passing.{turn, take_token, share_token, drop_token, offer, informed, answer, please, test}
use Rattle.domain.specs.Leaving.{leave, those_on, detach, close}
use Rattle.domain.specs.Events.{users_full, channels_full, tokens_full, act, Event, opens, loses, hears, reads, refuses, stays, sends, ends, complaint, answers, step_with}
use Rattle.domain.proofs.Sending.{none_all, one_all, tell_all, own_all, farewell_all, complaint_all}
use Rattle.domain.proofs.invariant.From.{from_by}

module _ (pass : Sent → Bool) where
  -- an effect of which every record passes
  abbrev pub Sends : {A : Type 0} → Effect A → Type 0
  Sends ignored = Unit {0}
  Sends (done a rs) = all pass rs ≡ true

  either : {A : Type 0} (b : Bool) (x y : Effect A) → Sends x → Sends y → Sends (if b then x else y)
  either true x y f g = f
  either false x y f g = g

  put_all : {A B : Type 0} (put : (A → B)) (x : Effect A) → Sends x → Sends (within put x)
  unfolding within
  put_all put ignored f = tt
  put_all put (done a rs) f = f

  -- ---- tokens

  module _ (us : Users) (ts : Tokens) (p u k : ℕ) where
    turn_all : (i : ℕ) (confirm : (ℕ → ℕ → ℕ → ℕ → Message)) → ((n s : ℕ) → pass (to p (confirm n u k s)) ≡ true) → (t : Turned) → Sends (turn ts p u i k confirm t)
    unfolding turn
    turn_all i confirm q (fails n) = one_all pass _ (q n (status (state ts k) i))
    turn_all i confirm q (turns h) = one_all pass _ (q successful (status h i))

    pub take_all : ((n s : ℕ) → pass (to p (TGcf n u k s)) ≡ true) → (full : Bool) → Sends (take_token full us ts p u k)
    unfolding take_token
    take_all q full = from_by Sends tt us p u _ (λ i e l. turn_all i TGcf q _)

    pub share_all : ((n s : ℕ) → pass (to p (TIcf n u k s)) ≡ true) → (full : Bool) → Sends (share_token full us ts p u k)
    unfolding share_token
    share_all q full = from_by Sends tt us p u _ (λ i e l. turn_all i TIcf q _)

    pub drop_all : ((n s : ℕ) → pass (to p (TRcf n u k s)) ≡ true) → Sends (drop_token us ts p u k)
    unfolding drop_token
    drop_all q = from_by Sends tt us p u _ (λ i e l. turn_all i TRcf q _)

    pub offer_all : ((n s : ℕ) → pass (to p (TVcf n u k s)) ≡ true) → (r : ℕ) → ((q : ℕ) → pass (to q (TVin u k r)) ≡ true) → Sends (offer us ts p u k r)
    unfolding offer
    offer_all q r v = from_by Sends tt us p u _ (λ i e l. either (grabbed_by (state ts k) i) _ _ (go i (find us.ids r)) (one_all pass _ (q _ _)))
      where
        go : (i : ℕ) (w : Place) → Sends {A = Tokens} (elim w as (λ (_ : Place). Effect Tokens) [
          | At j ↦ done (set_token ts k (Giving i j)) (to (link us j) (TVin u k r) ∷ [])
          | Nowhere ↦ done ts (to p (TVcf no_such_user u k (status (state ts k) i)) ∷ [])
        ])
        go i (At j) = one_all pass _ (v (link us j))
        go i Nowhere = one_all pass _ (q _ _)

    pub please_all : ((q : ℕ) → pass (to q (TPin u k)) ≡ true) → Sends (please us ts p u k)
    unfolding please
    please_all q = from_by Sends tt us p u _ (λ i e l. tell_all pass (hosts us (party (state ts k))) (TPin u k) q)

    pub test_all : ((s : ℕ) → pass (to p (TTcf u k s)) ≡ true) → Sends (test us ts p u k)
    unfolding test
    test_all q = from_by Sends tt us p u _ (λ i e l. one_all pass _ (q _))

  informed_all : (us : Users) (n k : ℕ) → ((q u s : ℕ) → pass (to q (TVcf n u k s)) ≡ true) → (before after : Holding) → all pass (informed us n k before after) ≡ true
  unfolding informed
  informed_all us n k q Free h = none_all pass
  informed_all us n k q (Grabbed g) h = none_all pass
  informed_all us n k q (Inhibited is) h = none_all pass
  informed_all us n k q (Giving g r) h = one_all pass _ (q (link us g) (name us g) _)
  informed_all us n k q (Given r) h = none_all pass

  pub answer_all : (us : Users) (ts : Tokens) (p n r k : ℕ) → ((q u s : ℕ) → pass (to q (TVcf n u k s)) ≡ true) → Sends (answer us ts p n r k)
  unfolding answer
  answer_all us ts p n r k q = from_by Sends tt us p r _ (λ i e l. either (offered_to (state ts k) i) _ _ (informed_all us n k q (state ts k) _) tt)

-- ---- channels

-- every kind of message that the machine sends passes
pub record Passes (pass : (Sent → Bool)) : Type 0 where
  pub on_AUcf : (p n : ℕ) (u : Option ℕ) → pass (to p (AUcf n u)) ≡ true
  pub on_CJcf : (p n u c : ℕ) (e : Option ℕ) → pass (to p (CJcf n u c e)) ≡ true
  pub on_CCcf : (p n u : ℕ) (c : Option ℕ) → pass (to p (CCcf n u c)) ≡ true
  pub on_CDin : (p c : ℕ) → pass (to p (CDin c)) ≡ true
  pub on_CAin : (p u c : ℕ) (ids : List ℕ) → pass (to p (CAin u c ids)) ≡ true
  pub on_CEin : (p c : ℕ) (ids : List ℕ) → pass (to p (CEin c ids)) ≡ true
  pub on_DUin : (p n : ℕ) (ids : List ℕ) → pass (to p (DUin n ids)) ≡ true
  pub on_RJum : (p n : ℕ) (octets : List ℕ) → pass (to p (RJum n octets)) ≡ true
  pub on_TGcf : (p n u k s : ℕ) → pass (to p (TGcf n u k s)) ≡ true
  pub on_TIcf : (p n u k s : ℕ) → pass (to p (TIcf n u k s)) ≡ true
  pub on_TVcf : (p n u k s : ℕ) → pass (to p (TVcf n u k s)) ≡ true
  pub on_TRcf : (p n u k s : ℕ) → pass (to p (TRcf n u k s)) ≡ true
  pub on_TVin : (p u k r : ℕ) → pass (to p (TVin u k r)) ≡ true
  pub on_TPin : (p u k : ℕ) → pass (to p (TPin u k)) ≡ true
  pub on_TTcf : (p u k s : ℕ) → pass (to p (TTcf u k s)) ≡ true

module _ (pass : Sent → Bool) (law : Passes pass) where
  attach_all : (new : ℕ) (f g : Bool) (us : Users) (cs : Channels) (p : ℕ) → Sends pass (attach new f g us cs p)
  unfolding attach
  attach_all new f g us cs p = either pass f _ _ (one_all pass _ (law.on_AUcf p _ _)) (either pass g _ _ (one_all pass _ (law.on_AUcf p _ _)) (one_all pass _ (law.on_AUcf p _ _)))

  join_all : (new : ℕ) (full : Bool) (us : Users) (cs : Channels) (p u c : ℕ) → Sends pass (join new full us cs p u c)
  unfolding join join_at join_new
  join_all new full us cs p u c = from_by (Sends pass) tt us p u _ (λ i e l. go i (find cs.ids c))
    where
      says : (n : ℕ) (e : Option ℕ) → all pass (to p (CJcf n u c e) ∷ []) ≡ true
      says n e = one_all pass _ (law.on_CJcf p n u c e)

      at : (j n : ℕ) → Sends pass (join_at cs p u c j n)
      at j zero = says successful (some c)
      at j (suc n) = says (suc n) none

      go : (i : ℕ) (w : Place) → Sends pass {A = Channels} (elim w as (λ (_ : Place). Effect Channels) [
        | At j ↦ join_at cs p u c j (may (kind (channel cs j)) c u i)
        | Nowhere ↦ join_new new full cs p u c
      ])
      go i (At j) = at j (may (kind (channel cs j)) c u i)
      go i Nowhere = either pass (ltb 1000 c) _ _ (says no_such_channel none) (either pass full _ _ (says too_many_channels none) (either pass (eqb c 0) _ _ (says successful (some new)) (says successful (some c))))

  convene_all : (new : ℕ) (full : Bool) (us : Users) (cs : Channels) (p u : ℕ) → Sends pass (convene new full us cs p u)
  unfolding convene
  convene_all new full us cs p u = from_by (Sends pass) tt us p u _ (λ i e l. either pass full _ _ (one_all pass _ (law.on_CCcf p _ u _)) (one_all pass _ (law.on_CCcf p _ u _)))

  leave_channels_all : (cs : Channels) (p : ℕ) (ids : List ℕ) → Sends pass (leave_channels cs p ids)
  unfolding leave_channels
  leave_channels_all cs p ids = either pass (any (joined cs p) ids) _ _ (none_all pass) tt

  manages_all : (us : Users) (cs : Channels) (p u c : ℕ) (f : (ℕ → ℕ → ℕ → Effect Channels)) → ((j m adm : ℕ) → Sends pass (f j m adm)) → Sends pass (manages us cs p u c f)
  unfolding manages owned
  manages_all us cs p u c f q = from_by (Sends pass) tt us p u _ (λ i e l. go i (find cs.ids c))
    where
      its : (i j : ℕ) (k : Kind) → Sends pass (owned k i (f j))
      its i j Static = tt
      its i j User = tt
      its i j (Private m adm) = either pass (eqb m i) _ _ (q j m adm) tt
      its i j Assigned = tt

      go : (i : ℕ) (w : Place) → Sends pass {A = Channels} (elim w as (λ (_ : Place). Effect Channels) [ At j ↦ owned (kind (channel cs j)) i (f j) | Nowhere ↦ ignored ])
      go i (At j) = its i j (kind (channel cs j))
      go i Nowhere = tt

  disband_all : (us : Users) (cs : Channels) (p u c : ℕ) → Sends pass (disband us cs p u c)
  unfolding disband
  disband_all us cs p u c = manages_all us cs p u c _ (λ j m adm. tell_all pass (hosts us (with seats adm m)) (CDin c) (λ q. law.on_CDin q c))

  admit_all : (us : Users) (cs : Channels) (p u c : ℕ) (ids : List ℕ) → Sends pass (admit us cs p u c ids)
  unfolding admit
  admit_all us cs p u c ids = manages_all us cs p u c _ (λ j m adm. either pass (null (attached_of us ids)) _ _ tt (own_all pass us _ (CAin u c) (λ q xs. law.on_CAin q u c xs)))

  expel_all : (us : Users) (cs : Channels) (p u c : ℕ) (ids : List ℕ) → Sends pass (expel us cs p u c ids)
  unfolding expel
  expel_all us cs p u c ids = manages_all us cs p u c _ (λ j m adm. either pass (null (admitted_of us adm ids)) _ _ tt (own_all pass us _ (CEin c) (λ q xs. law.on_CEin q c xs)))

  leave_all : (d : Domain) (live reason : ℕ) (ids : List ℕ) → Sends pass (leave d live reason ids)
  unfolding leave
  leave_all d live reason ids = farewell_all pass law.on_DUin law.on_CDin (λ p u k s. law.on_TVcf p _ u k s) d _ live reason ids

  detach_all : (d : Domain) (p reason : ℕ) (ids : List ℕ) → Sends pass (detach d p reason ids)
  unfolding detach
  detach_all d p reason ids = either pass (null (those_on d.users p (once ids))) _ _ tt (leave_all d d.links reason _)

  close_all : (d : Domain) (p : ℕ) → Sends pass (close d p)
  unfolding close
  close_all d p = leave_all d _ _ _

  -- ---- every event

  act_all : (new : ℕ) (d : Domain) (p : ℕ) (m : Message) → Sends pass (act new d p m)
  unfolding act
  act_all new d p (EDrq x y) = none_all pass
  act_all new d p (DPum n) = close_all d p
  act_all new d p (RJum n octets) = close_all d p
  act_all new d p AUrq = put_all pass _ _ (attach_all new (users_full d) (channels_full d) d.users d.channels p)
  act_all new d p (DUrq n ids) = detach_all d p n ids
  act_all new d p (CJrq u c) = put_all pass _ _ (join_all new (channels_full d) d.users d.channels p u c)
  act_all new d p (CLrq cs) = put_all pass _ _ (leave_channels_all d.channels p cs)
  act_all new d p (CCrq u) = put_all pass _ _ (convene_all new (channels_full d) d.users d.channels p u)
  act_all new d p (CDrq u c) = put_all pass _ _ (disband_all d.users d.channels p u c)
  act_all new d p (CArq u c ids) = put_all pass _ _ (admit_all d.users d.channels p u c ids)
  act_all new d p (CErq u c ids) = put_all pass _ _ (expel_all d.users d.channels p u c ids)
  act_all new d p (TGrq u k) = put_all pass _ _ (take_all pass d.users d.tokens p u k (λ n s. law.on_TGcf p n u k s) (tokens_full d))
  act_all new d p (TIrq u k) = put_all pass _ _ (share_all pass d.users d.tokens p u k (λ n s. law.on_TIcf p n u k s) (tokens_full d))
  act_all new d p (TVrq u k r) = put_all pass _ _ (offer_all pass d.users d.tokens p u k (λ n s. law.on_TVcf p n u k s) r (λ q. law.on_TVin q u k r))
  act_all new d p (TVrs n r k) = put_all pass _ _ (answer_all pass d.users d.tokens p n r k (λ q u s. law.on_TVcf q n u k s))
  act_all new d p (TPrq u k) = put_all pass _ _ (please_all pass d.users d.tokens p u k (λ q. law.on_TPin q u k))
  act_all new d p (TRrq u k) = put_all pass _ _ (drop_all pass d.users d.tokens p u k (λ n s. law.on_TRcf p n u k s))
  act_all new d p (TTrq u k) = put_all pass _ _ (test_all pass d.users d.tokens p u k (λ s. law.on_TTcf p u k s))
  act_all new d p (AUcf n u) = tt
  act_all new d p (DUin n ids) = tt
  act_all new d p (CJcf n u c e) = tt
  act_all new d p (CCcf n u c) = tt
  act_all new d p (CDin c) = tt
  act_all new d p (CAin u c ids) = tt
  act_all new d p (CEin c ids) = tt
  act_all new d p (TGcf n u k s) = tt
  act_all new d p (TIcf n u k s) = tt
  act_all new d p (TVcf n u k s) = tt
  act_all new d p (TRcf n u k s) = tt
  act_all new d p (TVin g k r) = tt
  act_all new d p (TPin u k) = tt
  act_all new d p (TTcf u k s) = tt

  ends_all : (d : Domain) (room : ℕ) (x : Effect Domain) → Sends pass x → all pass (ends d room x).sent ≡ true
  unfolding ends sends
  ends_all d room ignored f = none_all pass
  ends_all d room (done e rs) f = go (ltb room (length (records rs)))
    where
      go : (b : Bool) → all pass (if b then stays d 9 else record { reply = 0; domain = e; sent = rs }).sent ≡ true
      go true = none_all pass
      go false = f

  -- an opening, a loss, a message that is read, and one that is refused
  pub step_all : (new : ℕ) (d : Domain) (e : Event) (room : ℕ) → all pass (step_with new d e room).sent ≡ true
  unfolding step_with answers sends
  step_all new d (opens p) room = go (ltb 15 p) (has d.links p)
    where
      go : (a b : Bool) → all pass (if a then stays d 2 else if b then stays d 3 else record { reply = 0; domain = put_links d (with connections d.links p); sent = [] }).sent ≡ true
      go true b = none_all pass
      go false true = none_all pass
      go false false = none_all pass
  step_all new d (loses p) room = go (ltb 15 p || not (has d.links p))
    where
      go : (a : Bool) → all pass (if a then stays d 2 else ends d room (close d p)).sent ≡ true
      go true = none_all pass
      go false = ends_all d room (close d p) (close_all d p)
  step_all new d (hears p (reads m)) room = go (ltb 15 p || not (has d.links p))
    where
      go : (a : Bool) → all pass (if a then stays d 2 else ends d room (act new d p m)).sent ≡ true
      go true = none_all pass
      go false = ends_all d room (act new d p m) (act_all new d p m)
  step_all new d (hears p (refuses n octets)) room = go (ltb 15 p || not (has d.links p)) (ltb room (length (records (complaint n p octets))))
    where
      go : (a b : Bool) → all pass (if a then stays d 2 else if b then stays d 9 else record { reply = n; domain = d; sent = complaint n p octets }).sent ≡ true
      go true b = none_all pass
      go false true = none_all pass
      go false false = complaint_all pass law.on_RJum n p octets
