-- What is demanded: one way or one record, and each record has one form. Assumes nothing.
use mathlib.Core.Path.{◌≡◌, sym, ap, ◌∙◌}
use mathlib.Core.Logic.{◌↔◌}
use mathlib.Core.List.{List, [], ◌∷◌}
use Prim.Native.Nat.{ℕ}
use native.Mathlib.Omega.{arith}
use Rattle.codec_octets.specs.Octets.{Bytes}
use Rattle.codec_table.specs.Codec.{ok}
use Rattle.codec_table.specs.Named.{Message, fields, heard, octets}
use Rattle.codec_table.proofs.NamedLaws.{heard_sent, formed_sent}
use Rattle.out_records.specs.Records.{Sent, to, wire}
use Rattle.domain.specs.Tables.{Domain, fresh, grant, FreeId}
use Rattle.domain.specs.Events.{Outcome, step}
use Rattle.domain.specs.Good.{Good}
use Rattle.domain.proofs.invariant.GoodIsSound.{good_sound}
use Rattle.domain.proofs.invariant.Invariant.{grant_free}
use Rattle.history.specs.Recorded.{Call}
use Rattle.history.specs.Served.{event, Bytewise}
use Rattle.history.proofs.ReadBack.{Readable, Readables, wire_heard}
use Rattle.history.proofs.Sendable.{sent_readable}
use Rattle.history.proofs.AsHeard.{event_formed, event_legible}
use Rattle.judging.specs.Conforming.{ample, demanded}
use Rattle.judging.specs.Judge.{id_in, judge}
use Rattle.judging.specs.Room.{packets, some_packets}
use Rattle.judging.specs.Claims.{Ways, one_way, by_id, SameOrOne, Forced, any_id, one_id, IdsForced, OneForm, ByOctets, RoomJudges}
use Rattle.judging.proofs.Forks.{NamesId, Goings, goes_one_way, goes_by_id, ways}
use Rattle.judging.proofs.Forcing.{is_user, one_fits}
use Rattle.judging.proofs.InRoom.{in_room}

-- what one event demands, as the id goes
module _ (d : Domain) (c : Call) where
  -- an event that hands out an id sends one record, which names it
  one_record : (q : ℕ) (m : (ℕ → Message)) (after : (ℕ → Domain)) → NamesId m
      → ((new : ℕ) → demanded new d c ≡ record { reply = 0; domain = after new; sent = to q (m new) ∷ [] }) → Ways d c
  one_record q m after n h = by_id q m (λ new. ap (λ (o : Outcome). o.sent) (h new)) n.id_is

  -- of any event
  ways_are : Bytewise c → Ways d c
  unfolding demanded
  ways_are y = go (ways d (event c) (event_formed c y))
    where
      go : Goings d (event c) → Ways d c
      go (goes_one_way h) = one_way (λ new old. h new old ample)
      go (goes_by_id q m after h n) = one_record q m after n (λ new. h new ample ∙ one_fits d (after new) ample q (m new) (omega arith) (n.short new))

-- one way or one record
pub either_way : SameOrOne
either_way d c y = ways_are d c y

-- J4 of the ids themselves
pub forced_ids : IdsForced
forced_ids d c new old y e = go (ways_are d c y)
  where
    go : Ways d c → Forced d c new old
    go (one_way h) = any_id h
    go (by_id q m h n) =
        let same : to q (m new) ∷ [] ≡ to q (m old) ∷ [] = sym (h new) ∙ ap (λ (o : Outcome). o.sent) e ∙ h old in
        let is : m new ≡ m old = cc in
        one_id (sym (n new) ∙ ap (λ (x : Message). id_in (fields x)) is ∙ n old)

-- ---- all that is demanded is read back
module _ (d : Domain) (g : Good d) (c : Call) (y : Bytewise c) (new : ℕ) (f : FreeId d new) where
  -- each record, whatever the id
  demanded_readable : Readables (demanded new d c).sent
  unfolding demanded step
  demanded_readable = go (ways d (event c) (event_formed c y))
    where
      ours : Readables (step d (event c) ample).sent
      ours = sent_readable d (good_sound d g) (is_user d (grant d.channels) (grant_free d g)) (event c) ample (event_legible c y)

      go : Goings d (event c) → Readables (demanded new d c).sent
      go (goes_one_way h) = rw (h new (grant d.channels) ample) ours
      go (goes_by_id q m after h n) =
          rw (h new ample ∙ one_fits d (after new) ample q (m new) (omega arith) (n.short new)) (n.readable new (is_user d new f), tt)

-- one form of a message
one_form : (m : Message) → Readable m → (os : List ℕ) → Bytes os → (os ≡ wire m) ↔ (heard os ≡ ok m)
unfolding wire
one_form m r os y = (
  λ e. ap heard e ∙ wire_heard m r,
  λ e.
      let a : octets m ≡ ok os = heard_sent os y m e in
      let b : octets m ≡ ok (wire m) = formed_sent m r.ranged r.few in
      cc,
)

forms : (rs : List Sent) → Readables rs → OneForm rs
forms [] r = tt
forms (to q m ∷ rs) r = (one_form m r.0, forms rs r.1)

-- of all that is demanded
pub octets_or_message : ByOctets
octets_or_message d new c g y f = forms (demanded new d c).sent (demanded_readable d g c y new f)

-- ---- what the code computes
pub room_is : RoomJudges
unfolding judge packets some_packets
room_is l fs = in_room fs (fresh l) [] 0 0
