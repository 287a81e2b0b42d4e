-- An event goes the same way whatever the new id is, or it hands the id out: then it sends one record, and the record names it. Assumes nothing.
use Rattle.std.specs.Prelude.{if◌then◌else◌}
use mathlib.Core.Path.{◌≡◌, refl, ap}
use mathlib.Core.Bool.{Bool, true, false, not, ◌||◌, So}
use mathlib.Core.List.{[], ◌∷◌}
use mathlib.Core.Option.{some}
use Prim.Native.Nat.{ℕ, ◌≤◌}
use native.Mathlib.Omega.{arith}
use lib.Dec.{eqb, ltb}
use lib.ListN.{length}
use Rattle.cols_spec.specs.Sets.{has}
use Rattle.cols_spec.specs.Places.{Place, At, Nowhere, find}
use Rattle.codec_table.specs.Messages.{entry, row}
use Rattle.codec_table.specs.Codec.{octets_of_msg}
use Rattle.codec_table.specs.Named.{Message, EDrq, DPum, RJum, AUrq, AUcf, DUrq, DUin, CJrq, CJcf, CLrq, CCrq, CCcf, CDrq, CDin, CArq, CAin, CErq, CEin}
use Rattle.codec_table.specs.Named.{TGrq, TGcf, TIrq, TIcf, TVrq, TVin, TVrs, TVcf, TPrq, TPin, TRrq, TRcf, TTrq, TTcf, fields, formed as formed_message}
use Rattle.codec_table.proofs.NamedLaws.{User, Channel, ranges}
use Rattle.out_records.specs.Records.{to, wire}
use Rattle.domain.specs.Cells.{kind}
use Rattle.domain.specs.Tables.{Users, Channels, Domain, attached, channel, put_channels, put_both}
use Rattle.domain.specs.Effects.{Effect, ignored, done, from, within}
use Rattle.domain.specs.Channels.{attach, may, join_at, join_new, join, convene}
use Rattle.domain.specs.Events.{reads, refuses, Event, opens, loses, hears, sends, ends, act, answers, step_with, users_full, channels_full}
use Rattle.domain.specs.Claims.{formed}
use Rattle.history.proofs.ReadBack.{Readable}
use Rattle.history.proofs.Readables.{at_most_lem, AUcf_readable, CJcf_readable, CCcf_readable}
use Rattle.judging.specs.Judge.{id_in}

-- messages that are read back, and name the id that they are given
pub record NamesId (m : (ℕ → Message)) : Type 0 where
  pub readable : (new : ℕ) → User new → Readable (m new)
  pub short : (new : ℕ) → length (wire (m new)) ≤ 134
  pub id_is : (new : ℕ) → id_in (fields (m new)) ≡ new

-- ---- the three messages that hand out an id

AUcf_names : NamesId (λ new. AUcf 0 (some new))
unfolding id_in fields wire row entry octets_of_msg
AUcf_names = record { readable = λ new u. AUcf_readable 0 (omega arith) (some new) u; short = λ new. omega arith; id_is = λ new. refl }

CJcf_names : (u c : ℕ) → User u → Channel c → NamesId (λ new. CJcf 0 u c (some new))
unfolding id_in fields wire row entry octets_of_msg
CJcf_names u c a b =
    record {
      readable = λ new h. CJcf_readable 0 (omega arith) u c a b (some new) (at_most_lem h.most);
      short = λ new. omega arith;
      id_is = λ new. refl;
    }

CCcf_names : (u : ℕ) → User u → NamesId (λ new. CCcf 0 u (some new))
unfolding id_in fields wire row entry octets_of_msg
CCcf_names u a = record { readable = λ new h. CCcf_readable 0 (omega arith) u a (some new) h; short = λ new. omega arith; id_is = λ new. refl }

-- ---- what comes of a request, as the new id goes
pub data Forks {A : Type 0} (f : (ℕ → Effect A)) : Type 0 where
  alike : ((new old : ℕ) → f new ≡ f old) → Forks f
  hands : (p : ℕ) (m : (ℕ → Message)) (after : (ℕ → A)) → ((new : ℕ) → f new ≡ done (after new) (to p (m new) ∷ [])) → NamesId m → Forks f

module _ {A : Type 0} where
  -- one of two, by a test
  either : (b : Bool) (f g : (ℕ → Effect A)) → Forks f → Forks g → Forks {A = A} (λ new. if b then f new else g new)
  either true f g h k = h
  either false f g h k = k

  -- by where an id is found
  at_place : (q : Place) (f : (ℕ → ℕ → Effect A)) (g : (ℕ → Effect A)) → ((i : ℕ) → Forks (λ new. f new i)) → Forks g
      → Forks {A = A} (λ new. elim q as (λ (_ : Place). Effect A) [ At i ↦ f new i | Nowhere ↦ g new ])
  at_place (At i) f g h k = h i
  at_place Nowhere f g h k = k

  -- by a user that is attached there
  by_user : (us : Users) (p u : ℕ) (f : (ℕ → ℕ → Effect A)) → ((i : ℕ) → Forks (λ new. f new i)) → Forks (λ new. from us p u (f new))
  unfolding from
  by_user us p u f h = at_place (attached us p u) f (λ new. ignored) h (alike (λ new old. refl))

-- within all the tables
part : {A B : Type 0} (put : (A → B)) (f : (ℕ → Effect A)) → Forks f → Forks (λ new. within put (f new))
unfolding within
part put f (alike h) = alike (λ new old. ap (within put) (h new old))
part put f (hands p m after h n) = hands p m (λ new. put (after new)) (λ new. ap (within put) (h new)) n

-- ---- the three requests for one

attach_forks : (a b : Bool) (us : Users) (cs : Channels) (p : ℕ) → Forks (λ new. attach new a b us cs p)
unfolding attach
attach_forks a b us cs p = either a _ _ (alike (λ new old. refl)) (either b _ _ (alike (λ new old. refl)) (hands p _ _ (λ new. refl) AUcf_names))

join_new_forks : (b : Bool) (cs : Channels) (p u c : ℕ) → User u → Channel c → Forks (λ new. join_new new b cs p u c)
unfolding join_new
join_new_forks b cs p u c a k =
    either (ltb 1000 c) _ _ (alike (λ new old. refl))
    (either b _ _ (alike (λ new old. refl))
    (either (eqb c 0) _ _ (hands p _ _ (λ new. refl) (CJcf_names u c a k)) (alike (λ new old. refl))))

join_forks : (b : Bool) (us : Users) (cs : Channels) (p u c : ℕ) → User u → Channel c → Forks (λ new. join new b us cs p u c)
unfolding join
join_forks b us cs p u c a k =
    by_user us p u _ (λ i. at_place (find cs.ids c) (λ new j. join_at cs p u c j (may (kind (channel cs j)) c u i)) _ (λ j. alike (λ new old. refl)) (join_new_forks b cs p u c a k))

convene_forks : (b : Bool) (us : Users) (cs : Channels) (p u : ℕ) → User u → Forks (λ new. convene new b us cs p u)
unfolding convene
convene_forks b us cs p u a = by_user us p u _ (λ i. either b _ _ (alike (λ new old. refl)) (hands p _ _ (λ new. refl) (CCcf_names u a)))

-- the request of a message
act_forks : (d : Domain) (p : ℕ) (m : Message) → formed_message m ≡ true → Forks (λ new. act new d p m)
unfolding act
act_forks d p AUrq f = part (put_both d) _ (attach_forks (users_full d) (channels_full d) d.users d.channels p)
act_forks d p (CJrq u c) f = let r = ranges (CJrq u c) f in part (put_channels d) _ (join_forks (channels_full d) d.users d.channels p u c r.0 r.1)
act_forks d p (CCrq u) f = part (put_channels d) _ (convene_forks (channels_full d) d.users d.channels p u (ranges (CCrq u) f))
act_forks d p (EDrq h i) f = alike (λ new old. refl)
act_forks d p (DPum n) f = alike (λ new old. refl)
act_forks d p (RJum n os) f = alike (λ new old. refl)
act_forks d p (DUrq n ids) f = alike (λ new old. refl)
act_forks d p (CLrq cs) f = alike (λ new old. refl)
act_forks d p (CDrq u c) f = alike (λ new old. refl)
act_forks d p (CArq u c ids) f = alike (λ new old. refl)
act_forks d p (CErq u c ids) f = alike (λ new old. refl)
act_forks d p (TGrq u k) f = alike (λ new old. refl)
act_forks d p (TIrq u k) f = alike (λ new old. refl)
act_forks d p (TVrq u k r) f = alike (λ new old. refl)
act_forks d p (TVrs n r k) f = alike (λ new old. refl)
act_forks d p (TPrq u k) f = alike (λ new old. refl)
act_forks d p (TRrq u k) f = alike (λ new old. refl)
act_forks d p (TTrq u k) f = alike (λ new old. refl)
act_forks d p (AUcf n u) f = alike (λ new old. refl)
act_forks d p (DUin n ids) f = alike (λ new old. refl)
act_forks d p (CJcf n u c e) f = alike (λ new old. refl)
act_forks d p (CCcf n u c) f = alike (λ new old. refl)
act_forks d p (CDin c) f = alike (λ new old. refl)
act_forks d p (CAin u c ids) f = alike (λ new old. refl)
act_forks d p (CEin c ids) f = alike (λ new old. refl)
act_forks d p (TGcf n u k s) f = alike (λ new old. refl)
act_forks d p (TIcf n u k s) f = alike (λ new old. refl)
act_forks d p (TVcf n u k s) f = alike (λ new old. refl)
act_forks d p (TRcf n u k s) f = alike (λ new old. refl)
act_forks d p (TVin g k r) f = alike (λ new old. refl)
act_forks d p (TPin u k) f = alike (λ new old. refl)
act_forks d p (TTcf u k s) f = alike (λ new old. refl)

-- ---- an event, in any room
pub data Goings (d : Domain) (e : Event) : Type 0 where
  goes_one_way : ((new old room : ℕ) → step_with new d e room ≡ step_with old d e room) → Goings d e
  goes_by_id : (p : ℕ) (m : (ℕ → Message)) (after : (ℕ → Domain)) → ((new room : ℕ) → step_with new d e room ≡ sends d room 0 (after new) (to p (m new) ∷ []))
      → NamesId m → Goings d e

-- a message that is read
ending : (d : Domain) (p : ℕ) (m : Message) → (ltb 15 p || not (has d.links p)) ≡ false → Forks (λ new. act new d p m) → Goings d (hears p (reads m))
unfolding step_with answers ends
ending d p m e (alike h) = goes_one_way (λ new old room. rw e (ap (λ (x : Effect Domain). ends d room x) (h new old)))
ending d p m e (hands q r after h n) = goes_by_id q r after (λ new room. rw e (ap (λ (x : Effect Domain). ends d room x) (h new))) n

-- every event
pub ways : (d : Domain) (e : Event) → So (formed e) → Goings d e
unfolding step_with answers formed
ways d (opens p) f = goes_one_way (λ new old room. refl)
ways d (loses p) f = goes_one_way (λ new old room. refl)
ways d (hears p (refuses n os)) f = goes_one_way (λ new old room. refl)
ways d (hears p (reads m)) f = go (ltb 15 p || not (has d.links p)) refl
  where
    go : (b : Bool) → (ltb 15 p || not (has d.links p)) ≡ b → Goings d (hears p (reads m))
    go true e = goes_one_way (λ new old room. rw e refl)
    go false e = ending d p m e (act_forks d p m f)
