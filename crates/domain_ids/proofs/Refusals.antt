-- Whatever new id is chosen, the reply is the same, and as many ids are handed out. A refused request leaves everything as it was. Assumes nothing.
use Rattle.std.specs.Prelude.{if◌then◌else◌}
use mathlib.Core.Path.{◌≡◌, refl, ap}
use mathlib.Core.List.{List, [], ◌∷◌, ◌++◌}
use mathlib.Core.Option.{some}
use mathlib.Core.Bool.{Bool, not, ◌||◌}
use Prim.Native.Nat.{ℕ}
use lib.Dec.{eqb, ltb}
use lib.ListN.{length}
use Rattle.cols_spec.specs.Sets.{null, each, has}
use Rattle.cols_spec.specs.Places.{Place, At, Nowhere, find}
use Rattle.codec_table.specs.Named.{Message, EDrq, DPum, RJum, AUrq, AUcf, DUrq, DUin, CJrq, CJcf, CLrq, CCrq, CCcf, CDrq, CDin, CArq, CAin, CErq, CEin}
use Rattle.codec_table.specs.Named.{TGrq, TGcf, TIrq, TIcf, TVrq, TVin, TVrs, TVcf, TPrq, TPin, TRrq, TRcf, TTrq, TTcf, successful}
use Rattle.out_records.specs.Records.{Sent, to, records}
use Rattle.domain.specs.Cells.{kind}
use Rattle.domain.specs.Tables.{Users, Channels, Domain, channel, attached}
use Rattle.domain.specs.Effects.{Effect, ignored, done, from, within}
use Rattle.domain.specs.Channels.{attach, may, join_at, join_new, join, convene}
use Rattle.domain.specs.Leaving.{close}
use Rattle.domain.specs.Events.{act, Event, opens, loses, hears, reads, refuses, Outcome, stays, sends, ends, complaint, answers, step_with}
use Rattle.domain.specs.Hearers.{notice}
use Rattle.domain_ids.specs.Rolling.{upcoming, hands_out, handed_by, NoRefusalChanges, latest, hands, RefusedStays}
use Rattle.domain.proofs.Opened.{opened}
use Rattle.domain.proofs.Sending.{complaint_all}
use Rattle.domain_laws.proofs.same.Holdings.{either}
use Rattle.domain_ids.proofs.Dealing.{idle, all_idle, choose}

-- two effects: the same, or both done with records that are as long and hand out as many ids
data Like {A : Type 0} : Effect A → Effect A → Type 0 where
  same : {x : Effect A} → Like x x
  sized : {a b : A} {rs ss : List Sent} → length (records rs) ≡ length (records ss) → length (handed_by rs) ≡ length (handed_by ss) → Like (done a rs) (done b ss)

within_like : {A B : Type 0} (f : (A → B)) {x y : Effect A} → Like x y → Like (within f x) (within f y)
unfolding within
within_like f same = same
within_like f (sized e g) = sized e g

from_like : {A : Type 0} (us : Users) (p u : ℕ) (f g : (ℕ → Effect A)) → ((i : ℕ) → Like (f i) (g i)) → Like (from us p u f) (from us p u g)
unfolding from
from_like {A} us p u f g h = go (attached us p u)
  where
    go : (w : Place) → Like {A = A} (elim w as (λ (_ : Place). Effect A) [ At i ↦ f i | Nowhere ↦ ignored ]) (elim w as (λ (_ : Place). Effect A) [ At i ↦ g i | Nowhere ↦ ignored ])
    go (At i) = h i
    go Nowhere = same

-- the three records that name the new id
module _ (a b p : ℕ) where
  AUcf_long : length (records (to p (AUcf successful (some a)) ∷ [])) ≡ length (records (to p (AUcf successful (some b)) ∷ []))
  unfolding opened
  AUcf_long = refl

  CCcf_long : (u : ℕ) → length (records (to p (CCcf successful u (some a)) ∷ [])) ≡ length (records (to p (CCcf successful u (some b)) ∷ []))
  unfolding opened
  CCcf_long u = refl

  CJcf_long : (u c : ℕ) → length (records (to p (CJcf successful u c (some a)) ∷ [])) ≡ length (records (to p (CJcf successful u c (some b)) ∷ []))
  unfolding opened
  CJcf_long u c = refl

module _ (a b : ℕ) where
  attach_like : (uf cf : Bool) (us : Users) (cs : Channels) (p : ℕ) → Like (attach a uf cf us cs p) (attach b uf cf us cs p)
  unfolding attach handed_by each notice hands_out
  attach_like uf cf us cs p = either Like uf uf refl same (either Like cf cf refl same (sized (AUcf_long a b p) refl))

  join_like : (full : Bool) (us : Users) (cs : Channels) (p u c : ℕ) → Like (join a full us cs p u c) (join b full us cs p u c)
  unfolding join join_new handed_by each notice hands_out
  join_like full us cs p u c = from_like us p u _ _ (λ i. go i (find cs.ids c))
    where
      one : length ((if eqb c 0 then a ∷ [] else []) ++ []) ≡ length ((if eqb c 0 then b ∷ [] else []) ++ [])
      one = either (λ (xs ys : List ℕ). length (xs ++ []) ≡ length (ys ++ [])) (eqb c 0) (eqb c 0) refl refl refl

      go : (i : ℕ) (w : Place) → Like {A = Channels} (elim w as (λ (_ : Place). Effect Channels) [ At j ↦ join_at cs p u c j (may (kind (channel cs j)) c u i) | Nowhere ↦ join_new a full cs p u c ])
          (elim w as (λ (_ : Place). Effect Channels) [ At j ↦ join_at cs p u c j (may (kind (channel cs j)) c u i) | Nowhere ↦ join_new b full cs p u c ])
      go i (At j) = same
      go i Nowhere = either Like (ltb 1000 c) (ltb 1000 c) refl same (either Like full full refl same (either Like (eqb c 0) (eqb c 0) refl (sized (CJcf_long a b p u c) one) same))

  convene_like : (full : Bool) (us : Users) (cs : Channels) (p u : ℕ) → Like (convene a full us cs p u) (convene b full us cs p u)
  unfolding convene handed_by each notice hands_out
  convene_like full us cs p u = from_like us p u _ _ (λ i. either Like full full refl same (sized (CCcf_long a b p u) refl))

  act_like : (d : Domain) (p : ℕ) (m : Message) → Like (act a d p m) (act b d p m)
  unfolding act
  act_like d p (EDrq h i) = same
  act_like d p (DPum n) = same
  act_like d p (RJum n octets) = same
  act_like d p AUrq = within_like _ (attach_like _ _ _ _ p)
  act_like d p (DUrq n ids) = same
  act_like d p (CJrq u c) = within_like _ (join_like _ _ _ p u c)
  act_like d p (CLrq cs) = same
  act_like d p (CCrq u) = within_like _ (convene_like _ _ _ p u)
  act_like d p (CDrq u c) = same
  act_like d p (CArq u c ids) = same
  act_like d p (CErq u c ids) = same
  act_like d p (TGrq u k) = same
  act_like d p (TIrq u k) = same
  act_like d p (TVrq u k r) = same
  act_like d p (TVrs n r k) = same
  act_like d p (TPrq u k) = same
  act_like d p (TRrq u k) = same
  act_like d p (TTrq u k) = same
  act_like d p (AUcf n u) = same
  act_like d p (DUin n ids) = same
  act_like d p (CJcf n u c e) = same
  act_like d p (CCcf n u c) = same
  act_like d p (CDin c) = same
  act_like d p (CAin u c ids) = same
  act_like d p (CEin c ids) = same
  act_like d p (TGcf n u k t) = same
  act_like d p (TIcf n u k t) = same
  act_like d p (TVcf n u k t) = same
  act_like d p (TRcf n u k t) = same
  act_like d p (TVin g k r) = same
  act_like d p (TPin u k) = same
  act_like d p (TTcf u k t) = same

-- outcomes with the same reply, by which as many ids are handed out
abbrev Unmoved : Outcome → Outcome → Type 0
Unmoved o r = (o.reply ≡ r.reply) × (length (handed_by o.sent) ≡ length (handed_by r.sent))

ends_unmoved : (d : Domain) (room : ℕ) {x y : Effect Domain} → Like x y → Unmoved (ends d room x) (ends d room y)
unfolding ends sends
ends_unmoved d room same = (refl, refl)
ends_unmoved d room (sized {rs} {ss} e f) = either Unmoved (ltb room (length (records rs))) (ltb room (length (records ss))) (ap (ltb room) e) (refl, refl) (refl, f)

pub unmoved : NoRefusalChanges
unfolding step_with answers
unmoved d a b (opens p) room = (refl, refl)
unmoved d a b (loses p) room = (refl, refl)
unmoved d a b (hears p (reads m)) room = either Unmoved (ltb 15 p || not (has d.links p)) (ltb 15 p || not (has d.links p)) refl (refl, refl) (ends_unmoved d room (act_like a b d p m))
unmoved d a b (hears p (refuses n octets)) room = (refl, refl)

-- ---- a refused request

module _ (d : Domain) where
  -- with a reply other than 0 the tables stay, and nothing is handed out
  abbrev Stays : Outcome → Type 0
  Stays o = (o.reply ≡ 0 → ⊥) → (o.domain ≡ d) × (handed_by o.sent ≡ [])

  stays_so : (n : ℕ) → Stays (stays d n)
  unfolding handed_by each
  stays_so n h = (refl, refl)

  ends_so : (room : ℕ) (x : Effect Domain) → Stays (ends d room x)
  unfolding ends sends
  ends_so room ignored = stays_so 1
  ends_so room (done e rs) = choose Stays (ltb room (length (records rs))) (λ q. stays_so 9) (λ q h. absurd (h refl))

  refusal_so : (room n p : ℕ) (octets : List ℕ) → Stays (sends d room n d (complaint n p octets))
  unfolding sends notice hands_out null
  refusal_so room n p octets = choose Stays (ltb room (length (records (complaint n p octets)))) (λ q. stays_so 9) (λ q h. (refl, all_idle _ (complaint_all idle (λ r k os. refl) n p octets)))

  step_so : (new : ℕ) (v : Event) (room : ℕ) → Stays (step_with new d v room)
  unfolding step_with answers
  step_so new (opens p) room = choose Stays (ltb 15 p) (λ q. stays_so 2) (λ q. choose Stays (has d.links p) (λ r. stays_so 3) (λ r h. absurd (h refl)))
  step_so new (loses p) room = choose Stays (ltb 15 p || not (has d.links p)) (λ q. stays_so 2) (λ q. ends_so room (close d p))
  step_so new (hears p (reads m)) room = choose Stays (ltb 15 p || not (has d.links p)) (λ q. stays_so 2) (λ q. ends_so room (act new d p m))
  step_so new (hears p (refuses n octets)) room = choose Stays (ltb 15 p || not (has d.links p)) (λ q. stays_so 2) (λ q. refusal_so room n p octets)

pub refused : RefusedStays
unfolding hands latest
refused s t h = let r = step_so s.domain (upcoming s.domain s.last) t.0 t.1 h in
    λ i. record { domain = r.0 i; last = latest (r.1 i) s.last; handed = r.1 i ++ s.handed }
