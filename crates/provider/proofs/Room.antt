-- A room of 17,200 octets never meets 9. Assumes nothing.
use Rattle.std.specs.Prelude.{if◌then◌else◌}
use mathlib.Core.Path.{◌≡◌, refl, ap}
use mathlib.Core.Bool.{Bool, true, false, not, ◌||◌}
use mathlib.Core.List.{List, [], ◌∷◌}
use mathlib.Core.Option.{Option, none, some}
use Prim.Native.Nat.{ℕ, zero, suc, ◌≤◌, ◌<◌}
use native.Mathlib.Omega.{arith}
use borrow.Author.Tests.{le-ltb}
use lib.Dec.{eqb, ltb}
use lib.ListN.{length, take}
use Rattle.cols_spec.specs.Sets.{keep, any, null, upto, below, member, firsts, once, has, with, connections, seats}
use Rattle.cols_spec.specs.Places.{Place, At, Nowhere, find, found, in_order}
use Rattle.cols_spec.proofs.Order.{keep_le, in_order_length}
use Rattle.codec_octets.specs.Octets.{Bytes}
use Rattle.codec_table.specs.Messages.{entry, row, may_go_up, is_served}
use Rattle.codec_table.specs.Codec.{octets_of_msg, sized, Outcome as Read, ok, refuse}
use Rattle.codec_table.specs.Named.{Message, EDrq, DPum, RJum, AUrq, AUcf, DUrq, DUin, CJrq, CJcf, CLrq, CCrq, CCcf, CDrq, CDin, CArq, CAin, CErq, CEin}
use Rattle.codec_table.specs.Named.{TGrq, TGcf, TIrq, TIcf, TVrq, TVin, TVrs, TVcf, TPrq, TPin, TRrq, TRcf, TTrq, TTcf}
use Rattle.codec_table.specs.Named.{fields, formed, heard}
use Rattle.codec_table.proofs.NamedLaws.{ranges, heard_formed}
use Rattle.out_records.specs.Records.{Sent, to, tell, wire, records}
use Rattle.out_records.proofs.Laying.{ids_length}
use Rattle.out_records.proofs.Telling.{records_none, sent_length, told_length}
use Rattle.out_records.proofs.Wire.{wire_CAin, wire_CEin}
use Rattle.domain.specs.declared.channel.Kind.{Kind}
use Rattle.domain.specs.declared.channel.Kind.TheVariants.{Static, User, Private, Assigned}
use Rattle.domain.specs.declared.token.Holding.{Holding}
use Rattle.domain.specs.declared.token.Holding.TheVariants.{Free, Grabbed, Inhibited, Giving, Given}
use Rattle.domain.specs.Cells.{kind}
use Rattle.domain.specs.Tables.{Users, Channels, Tokens, Domain, attached, channel, hosts, state, put_links, put_channels, put_tokens, put_both, grant}
use Rattle.domain.specs.Tokens.{Turned, fails, turns, grab, inhibit, release, grabbed_by, offered_to, party}
use Rattle.domain.specs.Effects.{Effect, ignored, done, from, within}
use Rattle.domain.specs.Channels.{attach, may, join_at, join_new, join, joined, leave_channels, convene, owned, manages, disband, own, attached_of, admitted_of, admit, expel}
use Rattle.domain.specs.Passing.{turn, take_token, share_token, drop_token, offer, informed, answer, please, test}
use Rattle.domain.specs.Leaving.{leave, those_on, detach, close}
use Rattle.domain.specs.Events.{Reading, reads, refuses, Event, opens, loses, hears, stays, sends, ends, complaint, act, answers, step_with, step, users_full, channels_full, tokens_full}
use Rattle.serve_leave_records.proofs.Rounds.{each_length}
use Rattle.serve_leave_records.proofs.Parts.{farewell_length}
use Rattle.serve_read.specs.Understood.{number_in, read_as, understood}
use Rattle.serve_refuse.proofs.Rejecting.{rejection_length}
use Rattle.provider.proofs.Replies.{Fair, understood_fair}

-- the records of an effect take no more
abbrev Short : {A : Type 0} → Effect A → Type 0
Short ignored = Unit {0}
Short (done a rs) = length (records rs) ≤ 17200

module _ {A : Type 0} where
  short_either : (b : Bool) (x y : Effect A) → Short x → Short y → Short (if b then x else y)
  short_either true x y h k = h
  short_either false x y h k = k

  short_place : (q : Place) (f : ℕ → Effect A) (x : Effect A) → ((i : ℕ) → Short (f i)) → Short x → Short {A = A} (elim q as (λ (_ : Place). Effect A) [ At i ↦ f i | Nowhere ↦ x ])
  short_place (At i) f x h k = h i
  short_place Nowhere f x h k = k

  short_from : (us : Users) (p u : ℕ) (f : ℕ → Effect A) → ((i : ℕ) → Short (f i)) → Short (from us p u f)
  unfolding from
  short_from us p u f h = short_place (attached us p u) f ignored h tt

short_none : length (records []) ≤ 17200
short_none = omega (arith, ap length records_none)

short_one : (q : ℕ) (m : Message) → length (wire m) ≤ 134 → length (records (to q m ∷ [])) ≤ 17200
short_one q m h = omega (arith, sent_length q m)

short_told : (mask : ℕ) (m : Message) → length (wire m) ≤ 134 → length (records (tell mask m)) ≤ 17200
short_told mask m h = omega (arith, told_length mask m)

short_within : {A B : Type 0} (put : A → B) (x : Effect A) → Short x → Short (within put x)
unfolding within
short_within put ignored h = tt
short_within put (done a rs) h = h

-- ---- messages of fixed size, and those with a list of users
module _ (n u k s : ℕ) where
  TGcf_short : length (wire (TGcf n u k s)) ≤ 134
  unfolding wire fields row entry octets_of_msg
  TGcf_short = omega arith

  TIcf_short : length (wire (TIcf n u k s)) ≤ 134
  unfolding wire fields row entry octets_of_msg
  TIcf_short = omega arith

  TVcf_short : length (wire (TVcf n u k s)) ≤ 134
  unfolding wire fields row entry octets_of_msg
  TVcf_short = omega arith

  TRcf_short : length (wire (TRcf n u k s)) ≤ 134
  unfolding wire fields row entry octets_of_msg
  TRcf_short = omega arith

TTcf_short : (u k s : ℕ) → length (wire (TTcf u k s)) ≤ 134
unfolding wire fields row entry octets_of_msg
TTcf_short u k s = omega arith

TVin_short : (g k r : ℕ) → length (wire (TVin g k r)) ≤ 134
unfolding wire fields row entry octets_of_msg
TVin_short g k r = omega arith

TPin_short : (u k : ℕ) → length (wire (TPin u k)) ≤ 134
unfolding wire fields row entry octets_of_msg
TPin_short u k = omega arith

CDin_short : (c : ℕ) → length (wire (CDin c)) ≤ 134
unfolding wire fields row entry octets_of_msg
CDin_short c = omega arith

AUcf_short : (n : ℕ) (u : Option ℕ) → length (wire (AUcf n u)) ≤ 134
unfolding wire fields row entry octets_of_msg
AUcf_short n none = omega arith
AUcf_short n (some u) = omega arith

CJcf_short : (n u a : ℕ) (c : Option ℕ) → length (wire (CJcf n u a c)) ≤ 134
unfolding wire fields row entry octets_of_msg
CJcf_short n u a none = omega arith
CJcf_short n u a (some c) = omega arith

CCcf_short : (n u : ℕ) (c : Option ℕ) → length (wire (CCcf n u c)) ≤ 134
unfolding wire fields row entry octets_of_msg
CCcf_short n u none = omega arith
CCcf_short n u (some c) = omega arith

CAin_short : (u c : ℕ) (ids : List ℕ) → length ids ≤ 64 → length (wire (CAin u c ids)) ≤ 134
CAin_short u c ids h = omega (arith, ap length (wire_CAin ids (omega arith) u c), ids_length 1001 ids)

CEin_short : (c : ℕ) (ids : List ℕ) → length ids ≤ 64 → length (wire (CEin c ids)) ≤ 134
CEin_short c ids h = omega (arith, ap length (wire_CEin ids (omega arith) c), ids_length 1001 ids)

-- ---- lists
firsts_le : (before ids : List ℕ) → length (firsts before ids) ≤ length ids
unfolding firsts
firsts_le before [] = omega arith
firsts_le before (x ∷ xs) = go (member x before) (firsts_le (x ∷ before) xs)
  where
    go : (b : Bool) → length (firsts (x ∷ before) xs) ≤ length xs
        → length (if b then firsts (x ∷ before) xs else x ∷ firsts (x ∷ before) xs) ≤ suc (length xs)
    go true h = omega arith
    go false h = omega arith

pub once_le : (ids : List ℕ) → length (once ids) ≤ length ids
unfolding once
once_le ids = firsts_le [] ids

own_short : (us : Users) (ids : List ℕ) (say : List ℕ → Message) → length ids ≤ 64 → ((xs : List ℕ) → length xs ≤ 64 → length (wire (say xs)) ≤ 134)
    → length (records (own us ids say)) ≤ 17200
unfolding own upto
own_short us ids say h s =
    omega (
      arith,
      each_length (λ q. if null (keep (λ u. found (attached us q u)) ids) then [] else to q (say (keep (λ u. found (attached us q u)) ids)) ∷ []) 138
          (λ q. mine (null (keep (λ u. found (attached us q u)) ids)) q (keep (λ u. found (attached us q u)) ids) (keep_le (λ u. found (attached us q u)) ids))
          (below connections),
    )
  where
    mine : (b : Bool) (q : ℕ) (xs : List ℕ) → length xs ≤ length ids → length (records (if b then [] else to q (say xs) ∷ [])) ≤ 138
    mine true q xs l = omega (arith, ap length records_none)
    mine false q xs l = omega (arith, sent_length q (say xs), s xs (omega arith))

-- ---- requests about users and channels
attach_short : (new : ℕ) (f g : Bool) (us : Users) (cs : Channels) (p : ℕ) → Short (attach new f g us cs p)
unfolding attach
attach_short new f g us cs p =
    short_either f _ _ (short_one p _ (AUcf_short _ _)) (short_either g _ _ (short_one p _ (AUcf_short _ _)) (short_one p _ (AUcf_short _ _)))

join_at_short : (cs : Channels) (p u c j n : ℕ) → Short (join_at cs p u c j n)
unfolding join_at
join_at_short cs p u c j zero = short_one p _ (CJcf_short _ u c _)
join_at_short cs p u c j (suc n) = short_one p _ (CJcf_short (suc n) u c none)

join_new_short : (new : ℕ) (full : Bool) (cs : Channels) (p u c : ℕ) → Short (join_new new full cs p u c)
unfolding join_new
join_new_short new full cs p u c =
    short_either (ltb 1000 c) _ _ (short_one p _ (CJcf_short _ u c _))
    (short_either full _ _ (short_one p _ (CJcf_short _ u c _))
    (short_either (eqb c 0) _ _ (short_one p _ (CJcf_short _ u c _)) (short_one p _ (CJcf_short _ u c _))))

join_short : (new : ℕ) (full : Bool) (us : Users) (cs : Channels) (p u c : ℕ) → Short (join new full us cs p u c)
unfolding join
join_short new full us cs p u c =
    short_from us p u _ λ i.
    short_place (find cs.ids c) (λ j. join_at cs p u c j (may (kind (channel cs j)) c u i)) (join_new new full cs p u c)
    (λ j. join_at_short cs p u c j (may (kind (channel cs j)) c u i)) (join_new_short new full cs p u c)

leave_channels_short : (cs : Channels) (p : ℕ) (ids : List ℕ) → Short (leave_channels cs p ids)
unfolding leave_channels
leave_channels_short cs p ids = short_either (any (joined cs p) ids) _ _ short_none tt

convene_short : (new : ℕ) (full : Bool) (us : Users) (cs : Channels) (p u : ℕ) → Short (convene new full us cs p u)
unfolding convene
convene_short new full us cs p u = short_from us p u _ λ i. short_either full _ _ (short_one p _ (CCcf_short _ u _)) (short_one p _ (CCcf_short _ u _))

owned_short : (k : Kind) (i : ℕ) (f : ℕ → ℕ → Effect Channels) → ((m adm : ℕ) → Short (f m adm)) → Short (owned k i f)
unfolding owned
owned_short Static i f h = tt
owned_short User i f h = tt
owned_short (Private m adm) i f h = short_either (eqb m i) (f m adm) ignored (h m adm) tt
owned_short Assigned i f h = tt

manages_short : (us : Users) (cs : Channels) (p u c : ℕ) (f : ℕ → ℕ → ℕ → Effect Channels) → ((j m adm : ℕ) → Short (f j m adm)) → Short (manages us cs p u c f)
unfolding manages
manages_short us cs p u c f h =
    short_from us p u _ λ i.
    short_place (find cs.ids c) (λ j. owned (kind (channel cs j)) i (f j)) ignored (λ j. owned_short (kind (channel cs j)) i (f j) (h j)) tt

disband_short : (us : Users) (cs : Channels) (p u c : ℕ) → Short (disband us cs p u c)
unfolding disband
disband_short us cs p u c = manages_short us cs p u c _ λ j m adm. short_told (hosts us (with seats adm m)) (CDin c) (CDin_short c)

module _ (us : Users) (cs : Channels) (p u c : ℕ) (ids : List ℕ) (few : length ids ≤ 64) where
  admit_short : Short (admit us cs p u c ids)
  unfolding admit attached_of
  admit_short = manages_short us cs p u c _ λ j m adm.
      short_either (null (attached_of us ids)) _ _ tt
      (own_short us (attached_of us ids) (CAin u c) (omega (arith, keep_le (λ v. found (find us.ids v)) (once ids), once_le ids)) (CAin_short u c))

  expel_short : Short (expel us cs p u c ids)
  unfolding expel admitted_of
  expel_short = manages_short us cs p u c _ λ j m adm.
      short_either (null (admitted_of us adm ids)) _ _ tt
      (own_short us (admitted_of us adm ids) (CEin c) (omega (arith, keep_le (λ v. elim (find us.ids v) [ At i ↦ has adm i | Nowhere ↦ false ]) (once ids), once_le ids)) (CEin_short c))

-- ---- requests about tokens
turn_short : (ts : Tokens) (p u i k : ℕ) (confirm : ℕ → ℕ → ℕ → ℕ → Message) → ((n a b s : ℕ) → length (wire (confirm n a b s)) ≤ 134) → (t : Turned) → Short (turn ts p u i k confirm t)
unfolding turn
turn_short ts p u i k confirm h (fails n) = short_one p _ (h _ _ _ _)
turn_short ts p u i k confirm h (turns x) = short_one p _ (h _ _ _ _)

take_short : (full : Bool) (us : Users) (ts : Tokens) (p u k : ℕ) → Short (take_token full us ts p u k)
unfolding take_token
take_short full us ts p u k = short_from us p u _ λ i. turn_short ts p u i k TGcf TGcf_short (grab full (state ts k) i)

share_short : (full : Bool) (us : Users) (ts : Tokens) (p u k : ℕ) → Short (share_token full us ts p u k)
unfolding share_token
share_short full us ts p u k = short_from us p u _ λ i. turn_short ts p u i k TIcf TIcf_short (inhibit full (state ts k) i)

drop_short : (us : Users) (ts : Tokens) (p u k : ℕ) → Short (drop_token us ts p u k)
unfolding drop_token
drop_short us ts p u k = short_from us p u _ λ i. turn_short ts p u i k TRcf TRcf_short (release (state ts k) i)

offer_short : (us : Users) (ts : Tokens) (p u k r : ℕ) → Short (offer us ts p u k r)
unfolding offer
offer_short us ts p u k r =
    short_from us p u _ λ i.
    short_either (grabbed_by (state ts k) i) _ _
    (short_place (find us.ids r) _ _ (λ j. short_one _ (TVin u k r) (TVin_short u k r)) (short_one p _ (TVcf_short _ u k _)))
    (short_one p _ (TVcf_short _ u k _))

informed_short : (us : Users) (n k : ℕ) (h x : Holding) → length (records (informed us n k h x)) ≤ 17200
unfolding informed
informed_short us n k Free x = omega (arith, ap length records_none)
informed_short us n k (Grabbed g) x = omega (arith, ap length records_none)
informed_short us n k (Inhibited is) x = omega (arith, ap length records_none)
informed_short us n k (Giving g r) x = short_one _ _ (TVcf_short n _ k _)
informed_short us n k (Given r) x = omega (arith, ap length records_none)

answer_short : (us : Users) (ts : Tokens) (p n r k : ℕ) → Short (answer us ts p n r k)
unfolding answer
answer_short us ts p n r k =
    short_from us p r _ λ i. short_either (offered_to (state ts k) i) _ _ (informed_short us n k (state ts k) _) tt

please_short : (us : Users) (ts : Tokens) (p u k : ℕ) → Short (please us ts p u k)
unfolding please
please_short us ts p u k = short_from us p u _ λ i. short_told (hosts us (party (state ts k))) (TPin u k) (TPin_short u k)

test_short : (us : Users) (ts : Tokens) (p u k : ℕ) → Short (test us ts p u k)
unfolding test
test_short us ts p u k = short_from us p u _ λ i. short_one p _ (TTcf_short u k _)

-- ---- tables of the sizes that are lent
pub record Sized (d : Domain) : Type 0 where
  pub names : length d.users.ids ≤ 64
  pub ids : length d.channels.ids ≤ 128
  pub keys : length d.tokens.ids ≤ 64

module _ (d : Domain) (z : Sized d) where
  leave_short : (live reason : ℕ) (ids : List ℕ) → reason < 256 → length ids ≤ 64 → Short (leave d live reason ids)
  unfolding leave
  leave_short live reason ids r h = farewell_length d _ live reason ids r h z.ids z.keys

  detach_short : (p reason : ℕ) (ids : List ℕ) → reason < 256 → length ids ≤ 64 → Short (detach d p reason ids)
  unfolding detach those_on
  detach_short p reason ids r h =
      short_either (null (those_on d.users p (once ids))) _ _ tt
      (leave_short d.links reason (those_on d.users p (once ids)) r
      (omega (arith, keep_le (λ u. found (attached d.users p u)) (once ids), once_le ids)))

  close_short : (p : ℕ) → Short (close d p)
  unfolding close those_on
  close_short p =
      leave_short _ 0 _ (omega arith)
      (omega (arith, z.names, keep_le (λ u. found (attached d.users p u)) (in_order d.users.ids), in_order_length d.users.ids))

  act_short : (new p : ℕ) (m : Message) → formed m ≡ true → Short (act new d p m)
  unfolding act
  act_short new p (EDrq h i) f = short_none
  act_short new p (DPum n) f = close_short p
  act_short new p (RJum n os) f = close_short p
  act_short new p AUrq f = short_within (put_both d) _ (attach_short new (users_full d) (channels_full d) d.users d.channels p)
  act_short new p (DUrq n us) f = let r = ranges (DUrq n us) f in detach_short p n us (omega (arith, r.0.most)) r.1.few
  act_short new p (CJrq u c) f = short_within (put_channels d) _ (join_short new (channels_full d) d.users d.channels p u c)
  act_short new p (CLrq cs) f = short_within (put_channels d) _ (leave_channels_short d.channels p cs)
  act_short new p (CCrq u) f = short_within (put_channels d) _ (convene_short new (channels_full d) d.users d.channels p u)
  act_short new p (CDrq u c) f = short_within (put_channels d) _ (disband_short d.users d.channels p u c)
  act_short new p (CArq u c us) f = short_within (put_channels d) _ (admit_short d.users d.channels p u c us (ranges (CArq u c us) f).2.few)
  act_short new p (CErq u c us) f = short_within (put_channels d) _ (expel_short d.users d.channels p u c us (ranges (CErq u c us) f).2.few)
  act_short new p (TGrq u k) f = short_within (put_tokens d) _ (take_short (tokens_full d) d.users d.tokens p u k)
  act_short new p (TIrq u k) f = short_within (put_tokens d) _ (share_short (tokens_full d) d.users d.tokens p u k)
  act_short new p (TVrq u k r) f = short_within (put_tokens d) _ (offer_short d.users d.tokens p u k r)
  act_short new p (TVrs n r k) f = short_within (put_tokens d) _ (answer_short d.users d.tokens p n r k)
  act_short new p (TPrq u k) f = short_within (put_tokens d) _ (please_short d.users d.tokens p u k)
  act_short new p (TRrq u k) f = short_within (put_tokens d) _ (drop_short d.users d.tokens p u k)
  act_short new p (TTrq u k) f = short_within (put_tokens d) _ (test_short d.users d.tokens p u k)
  act_short new p (AUcf n u) f = tt
  act_short new p (DUin n us) f = tt
  act_short new p (CJcf n u a c) f = tt
  act_short new p (CCcf n u c) f = tt
  act_short new p (CDin c) f = tt
  act_short new p (CAin u c us) f = tt
  act_short new p (CEin c us) f = tt
  act_short new p (TGcf n u k s) f = tt
  act_short new p (TIcf n u k s) f = tt
  act_short new p (TVcf n u k s) f = tt
  act_short new p (TRcf n u k s) f = tt
  act_short new p (TVin g k r) f = tt
  act_short new p (TPin u k) f = tt
  act_short new p (TTcf u k s) f = tt

-- ---- a message is formed, and a complaint short
complaint_short : (n p : ℕ) (os : List ℕ) → length (records (complaint n p os)) ≤ 17200
unfolding complaint
complaint_short n p os = bad (eqb n 5) (eqb n 6)
  where
    rejects : (diagnostic : ℕ) → diagnostic < 256 → length (records (to p (RJum diagnostic (take 16 os)) ∷ [])) ≤ 17200
    rejects diagnostic l = omega (arith, sent_length p (RJum diagnostic (take 16 os)), rejection_length os diagnostic l)

    forbidden : (c : Bool) → length (records (if c then to p (RJum 2 (take 16 os)) ∷ [] else [])) ≤ 17200
    forbidden true = rejects 2 (omega arith)
    forbidden false = omega (arith, ap length records_none)

    bad : (b c : Bool) → length (records (if b then to p (RJum 4 (take 16 os)) ∷ [] else if c then to p (RJum 2 (take 16 os)) ∷ [] else [])) ≤ 17200
    bad true c = rejects 4 (omega arith)
    bad false c = forbidden c

abbrev Formed : Reading → Type 0
Formed (reads m) = formed m ≡ true
Formed (refuses n os) = Unit {0}

either_formed : (b : Bool) (n : ℕ) (os : List ℕ) (x : Reading) → Formed x → Formed (if b then refuses n os else x)
either_formed true n os x h = tt
either_formed false n os x h = h

understood_formed : (os : List ℕ) → Bytes os → Formed (understood os)
unfolding understood read_as
understood_formed os y =
    either_formed (not (sized os)) 4 os _
    (either_formed (ltb 42 (number_in os)) 5 os _
    (either_formed (not (may_go_up (number_in os))) 6 os _
    (either_formed (not (is_served (number_in os))) 7 os (read_as os (heard os)) (go (heard os) refl))))
  where
    go : (x : Read Message) → heard os ≡ x → Formed (read_as os x)
    go (ok m) e = heard_formed os y m e
    go (refuse n) e = tt

-- ---- the theorem: an event as it comes, of octets, in tables as they are lent
abbrev pub Arrives : Event → Type 0
Arrives (opens p) = Unit {0}
Arrives (loses p) = Unit {0}
Arrives (hears p m) = (os : List ℕ) × Bytes os × (m ≡ understood os)

module _ (d : Domain) (z : Sized d) (room : ℕ) (enough : 17200 ≤ room) where
  sends_room : (n : ℕ) (e : Domain) (rs : List Sent) → length (records rs) ≤ 17200 → n ≤ 8 → (sends d room n e rs).reply ≡ 9 → ⊥
  unfolding sends
  sends_room n e rs h l q =
      let r = rw (le-ltb room (length (records rs)) (omega arith)) at q in
      omega arith

  ends_room : (x : Effect Domain) → Short x → (ends d room x).reply ≡ 9 → ⊥
  unfolding ends
  ends_room ignored h q = omega arith
  ends_room (done e rs) h q = sends_room 0 e rs h (omega arith) q

  heard_room : (p : ℕ) (m : Reading) → Fair m → Formed m → (answers (grant d.channels) d p m room).reply ≡ 9 → ⊥
  unfolding answers
  heard_room p (reads m) f g q = ends_room (act (grant d.channels) d p m) (act_short d z (grant d.channels) p m g) q
  heard_room p (refuses n os) f g q = sends_room n d (complaint n p os) (complaint_short n p os) f.1 q

  pub never_9 : (e : Event) → Arrives e → (step d e room).reply ≡ 9 → ⊥
  unfolding step step_with
  never_9 (opens p) a q = go (ltb 15 p) (has d.links p) q
    where
      go : (b c : Bool) → (if b then stays d 2 else if c then stays d 3 else record { reply = 0; domain = put_links d (with connections d.links p); sent = [] }).reply ≡ 9 → ⊥
      go true c q = omega arith
      go false true q = omega arith
      go false false q = omega arith
  never_9 (loses p) a q = go (ltb 15 p || not (has d.links p)) q
    where
      go : (b : Bool) → (if b then stays d 2 else ends d room (close d p)).reply ≡ 9 → ⊥
      go true q = omega arith
      go false q = ends_room (close d p) (close_short d z p) q
  never_9 (hears p m) a q = go (ltb 15 p || not (has d.links p)) q
    where
      go : (b : Bool) → (if b then stays d 2 else answers (grant d.channels) d p m room).reply ≡ 9 → ⊥
      go true q = omega arith
      go false q = heard_room p m (rw a.2 (understood_fair a.0)) (rw a.2 (understood_formed a.0 a.1)) q
