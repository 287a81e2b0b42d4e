-- Their records force the id: where a group's records are those of some free id, they are those of the id that is chosen. Assumes nothing.
use Rattle.std.specs.Prelude.{if◌then◌else◌}
use mathlib.Core.Path.{◌≡◌, refl, sym, ap, ◌∙◌}
use mathlib.Core.Bool.{Bool, true, false}
use mathlib.Core.List.Perm
use mathlib.Core.List.{[], ◌∷◌, nil≢cons, Perm, List}
use Prim.Native.Nat.{ℕ, ◌≤◌}
use native.Mathlib.Omega.{arith}
use borrow.Author.Tests.{le-ltb, ltb-true, ltb-false}
use lib.Dec.{ltb}
use lib.ListN.{length}
use Rattle.codec_table.specs.Codec.{ok, decode}
use Rattle.codec_table.specs.Named.{Message, fields}
use Rattle.codec_table.proofs.NamedLaws.{User, heard_read}
use Rattle.out_records.specs.Records.{to, wire, records}
use Rattle.out_records.proofs.Telling.{sent_length}
use Rattle.domain.specs.Tables.{Channels, Domain, between, grant, free_id, FreeId}
use Rattle.domain.specs.Events.{Outcome, sends, step_with, step}
use Rattle.domain.specs.Good.{Good}
use Rattle.domain.proofs.invariant.Sound.{free_parts}
use Rattle.domain.proofs.invariant.Invariant.{step_good, grant_free}
use Rattle.provider.proofs.Replies.{Answering, answering, full_is_9, fits_is_sent}
use Rattle.provider.proofs.Room.{never_9}
use Rattle.history.specs.Recorded.{Call}
use Rattle.history.specs.Served.{event, Bytewise}
use Rattle.history.proofs.ReadBack.{Readable, wire_heard}
use Rattle.history.proofs.AsHeard.{event_formed}
use Rattle.history.proofs.Answering.{comes, arrives, good_sized}
use Rattle.judging.specs.Traces.{on, Frame, came, went, first_records}
use Rattle.judging.specs.Conforming.{ample, demanded, shown, due}
use Rattle.judging.specs.Judge.{id_in, next_id, chosen}
use Rattle.judging.specs.Claims.{RoomForAll}
use Rattle.judging.proofs.Forks.{Goings, goes_one_way, goes_by_id, ways}
use Rattle.judging.proofs.Matching.{only_one}

-- ---- ids

-- a free id is a user's
pub is_user : (d : Domain) (new : ℕ) → FreeId d new → User new
is_user d new f = let b = free_parts d new f in record { least = b.0; most = b.1 }

-- the id that is chosen is free
pub chosen_free : (d : Domain) → Good d → (n : ℕ) → FreeId d (chosen d.channels n)
unfolding chosen
chosen_free d g n = go (free_id d.channels n) refl
  where
    go : (b : Bool) → free_id d.channels n ≡ b → FreeId d (if b then n else grant d.channels)
    go true e = e
    go false e = grant_free d g

-- a free one is chosen itself
chosen_is : (d : Domain) (n : ℕ) → FreeId d n → chosen d.channels n ≡ n
unfolding chosen
chosen_is d n f = rw f refl

-- where no id is asked for it is our own choice
pub chosen_own : (cs : Channels) → chosen cs 0 ≡ grant cs
unfolding chosen between
chosen_own cs = refl

-- the tables after it are good again
pub good_after : (d : Domain) → Good d → (c : Call) → Bytewise c → (new : ℕ) → FreeId d new → Good (demanded new d c).domain
unfolding demanded
good_after d g c y new f = step_good d new (event c) ample g (event_formed c y) f

-- ---- a record that names an id

-- its octets are read as it
wire_read : (m : Message) → Readable m → decode (wire m) ≡ ok (fields m)
wire_read m r = heard_read (wire m) m (wire_heard m r)

-- one record fits
pub one_fits : (d a : Domain) (room p : ℕ) (m : Message) → ample ≤ room → length (wire m) ≤ 134 → sends d room 0 a (to p m ∷ []) ≡ record { reply = 0; domain = a; sent = to p m ∷ [] }
unfolding sends
one_fits d a room p m h s = rw (le-ltb room (length (records (to p m ∷ []))) (omega (arith, sent_length p m))) refl

-- frames whose records are this one begin with it
next_is : (fs : List Frame) (p : ℕ) (m : Message) → Perm (first_records fs) (on p (wire m) ∷ []) → Readable m → next_id fs ≡ id_in (fields m)
unfolding first_records next_id
next_is [] p m h r = absurd (nil≢cons (Perm.nil-eq h))
next_is (came c ∷ fs) p m h r = absurd (nil≢cons (Perm.nil-eq h))
next_is (went (on q os) ∷ fs) p m h r =
    let e : on q os ≡ on p (wire m) = only_one (on q os) (on p (wire m)) (first_records fs) h in
    let s : os ≡ wire m = cc in
    rw (s, wire_read m r) refl

-- ---- the id is forced
pub forced : (d : Domain) (c : Call) → Bytewise c → (new : ℕ) → FreeId d new → (fs : List Frame) → Perm (first_records fs) (due (demanded new d c))
    → demanded new d c ≡ demanded (chosen d.channels (next_id fs)) d c
unfolding demanded due shown
forced d c y new f fs p = go (ways d (event c) (event_formed c y))
  where
    go : Goings d (event c) → step_with new d (event c) ample ≡ step_with (chosen d.channels (next_id fs)) d (event c) ample
    go (goes_one_way h) = h new (chosen d.channels (next_id fs)) ample
    go (goes_by_id q m after h n) =
        let u = is_user d new f in
        let o = h new ample ∙ one_fits d (after new) ample q (m new) (omega arith) (n.short new) in
        let s : next_id fs ≡ new = next_is fs q (m new) (rw o at p) (n.readable new u) ∙ n.id_is new in
        rw (s, chosen_is d new f) refl

-- ---- room for every answer

module _ (d : Domain) (g : Good d) (c : Call) (y : Bytewise c) where
  -- what comes of the event
  answer : Answering d (event c)
  answer = answering d (event c) (comes c)

  -- our own step, where it is not answered 9
  answer_is : (room : ℕ) → ((step d (event c) room).reply ≡ 9 → ⊥) → step d (event c) room ≡ record { reply = answer.reply; domain = answer.after; sent = answer.sent }
  answer_is room h = go (ltb room (length (records answer.sent))) refl
    where
      go : (b : Bool) → ltb room (length (records answer.sent)) ≡ b → step d (event c) room ≡ record { reply = answer.reply; domain = answer.after; sent = answer.sent }
      go true e = absurd (h (ap (λ (o : Outcome). o.reply) (full_is_9 d (event c) answer room (ltb-true room (length (records answer.sent)) e))))
      go false e = fits_is_sent d (event c) answer room (ltb-false room (length (records answer.sent)) e)

  -- 9 is never met with room for every answer
  no_9 : (room : ℕ) → ample ≤ room → (step d (event c) room).reply ≡ 9 → ⊥
  no_9 room h = never_9 d (good_sized d g) room h (event c) (arrives c y)

  -- it does what is demanded, for our own choice of the id
  pub own_demanded : (room : ℕ) → ((step d (event c) room).reply ≡ 9 → ⊥) → step d (event c) room ≡ demanded (grant d.channels) d c
  unfolding demanded step
  own_demanded room h = answer_is room h ∙ sym (answer_is ample (no_9 ample (omega arith)))

-- any more room changes nothing, for any free id
pub roomy : RoomForAll
unfolding demanded step
roomy d new c room g y f h = go (ways d (event c) (event_formed c y))
  where
    ours : step d (event c) room ≡ step_with (grant d.channels) d (event c) room
    ours = refl

    go : Goings d (event c) → step_with new d (event c) room ≡ step_with new d (event c) ample
    go (goes_one_way w) =
        w new (grant d.channels) room ∙ sym ours ∙ own_demanded d g c y room (no_9 d g c y room h) ∙ w (grant d.channels) new ample
    go (goes_by_id q m after w n) =
        w new room ∙ one_fits d (after new) room q (m new) h (n.short new) ∙ sym (w new ample ∙ one_fits d (after new) ample q (m new) (omega arith) (n.short new))
