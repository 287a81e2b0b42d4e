-- Demand 1 of every call: replies, tables, what is sent, and the room; and that 17,200 octets are room enough in every run. Assumes nothing.
use Rattle.std.specs.Prelude.{if◌then◌else◌}
use mathlib.Core.Path.{◌≡◌, refl, ap, ◌∙◌}
use mathlib.Core.Bool.{Bool, true, false, not, ◌||◌}
use mathlib.Core.List.{List, [], ◌++◌}
use Prim.Native.Nat.{ℕ, ◌≤◌}
use native.Mathlib.Omega.{arith}
use borrow.Author.Tests.{ltb-true, ltb-false}
use lib.Dec.{ltb}
use lib.ListN.{length, drop}
use lib.Seq.{take-append_seam, drop-append_seam}
use Rattle.cols_spec.specs.Sets.{has}
use Rattle.codec_table.specs.Named.{Message}
use Rattle.out_records.specs.Records.{records}
use Rattle.domain.specs.Tables.{Domain, grant}
use Rattle.domain.specs.Effects.{Effect, ignored, done}
use Rattle.domain.specs.Events.{Outcome, hears, reads, stays, sends, ends, complaint, act, answers, step_with, step}
use Rattle.domain.specs.Good.{Good}
use Rattle.domain.proofs.invariant.GoodIsSound.{good_sound}
use Rattle.domain.specs.Outcomes.{step_settled as answer_turned, after}
use Rattle.provider.proofs.Replies.{Comes, complained, Answering, answering, reply_listed, tables_unchanged, complaint_sent, full_is_9, fits_is_sent}
use Rattle.provider.proofs.Room.{Sized, Arrives, never_9}
use Rattle.imaging.specs.Claims.{restored}
use Rattle.history.specs.Recorded.{Call, opening, losing, message}
use Rattle.history.specs.Served.{event, Turn, Bytewise, run, tables, serves, started}
use Rattle.history.specs.Always.{refusal, Demand1, RoomEnough, EnoughAfterImage}
use Rattle.history.proofs.AsHeard.{understood_by}
use Rattle.history.proofs.Runs.{run_good, image_good}

-- a call comes as an event of the provider
pub comes : (c : Call) → Comes (event c)
unfolding event
comes (opening p) = tt
comes (losing p) = tt
comes (message p os) = (os, refl)

-- with its octets
pub arrives : (c : Call) → Bytewise c → Arrives (event c)
unfolding event
arrives (opening p) y = tt
arrives (losing p) y = tt
arrives (message p os) y = (os, y, refl)

-- ---- what is sent with a reply other than 0

-- a message that was read is answered 0, 1, 2 or 9: no RJum
module _ (d : Domain) (p : ℕ) (os : List ℕ) (room : ℕ) where
  -- what comes of a request
  ends_quiet : (x : Effect Domain) → [] ≡ complaint (ends d room x).reply p os
  unfolding ends sends complaint
  ends_quiet ignored = refl
  ends_quiet (done e rs) = go (ltb room (length (records rs)))
    where
      go : (b : Bool) → [] ≡ complaint (if b then stays d 9 else record { reply = 0; domain = e; sent = rs }).reply p os
      go true = refl
      go false = refl

  -- on any connection
  read_quiet : (m : Message) → [] ≡ complaint (step d (hears p (reads m)) room).reply p os
  unfolding step step_with answers complaint
  read_quiet m = go (ltb 15 p || not (has d.links p))
    where
      go : (b : Bool) → [] ≡ complaint (if b then stays d 2 else ends d room (act (grant d.channels) d p m)).reply p os
      go true = refl
      go false = ends_quiet (act (grant d.channels) d p m)

-- what the provider's law names is what the call's refusal says
complained_is : (d : Domain) (c : Call) (room : ℕ) → complained (event c) (step d (event c) room).reply ≡ refusal c (step d (event c) room).reply
unfolding event refusal
complained_is d (opening p) room = refl
complained_is d (losing p) room = refl
complained_is d (message p os) room =
    understood_by os (λ m. complained (hears p m) (step d (hears p m) room).reply ≡ complaint (step d (hears p m) room).reply p os) (λ n. refl) (λ m e. read_quiet d p os room m)

-- with 9 nothing
none_at_9 : (c : Call) → refusal c 9 ≡ []
unfolding refusal complaint
none_at_9 (opening p) = refl
none_at_9 (losing p) = refl
none_at_9 (message p os) = refl

-- ---- one call
module _ (d : Domain) (c : Call) (out : List ℕ) where
  -- the answer of the machine, in this room
  abbrev o : Outcome
  o = step d (event c) (length out)

  -- the machine sends the refusal
  refusal_sent : (o.reply ≡ 0 → ⊥) → o.sent ≡ refusal c o.reply
  refusal_sent h = complaint_sent d (event c) (answering d (event c) (comes c)) (length out) h ∙ complained_is d c (length out)

  -- what is sent fits the room
  sent_fits : length (records o.sent) ≤ length out
  unfolding records
  sent_fits = go (ltb (length out) (length (records a.sent))) refl
    where
      a : Answering d (event c)
      a = answering d (event c) (comes c)

      go : (b : Bool) → ltb (length out) (length (records a.sent)) ≡ b → length (records o.sent) ≤ length out
      go true e = rw (full_is_9 d (event c) a (length out) (ltb-true (length out) (length (records a.sent)) e)) (omega arith)
      go false e = rw (fits_is_sent d (event c) a (length out) (ltb-false (length out) (length (records a.sent)) e)) (ltb-false (length out) (length (records a.sent)) e)

  -- with 9 the room is as it was
  unsent_stays : o.reply ≡ 9 → records o.sent ++ drop (length (records o.sent)) out ≡ out
  unfolding records
  unsent_stays h =
      let e : o.sent ≡ [] = refusal_sent (λ z. omega arith) ∙ ap (refusal c) h ∙ none_at_9 c in
      rw e refl

-- the demand
pub always : Demand1
unfolding after answer_turned
always d c out =
    let a = answering d (event c) (comes c) in
    let rs = (step d (event c) (length out)).sent in
    record {
      listed = reply_listed d (event c) a (length out);
      unchanged = tables_unchanged d (event c) a (length out);
      refused = λ h. take-append_seam (records rs) (drop (length (records rs)) out) ∙ ap records (refusal_sent d c out h);
      untouched = unsent_stays d c out;
      fits = sent_fits d c out;
      behind = drop-append_seam (records rs) (drop (length (records rs)) out);
    }

-- ---- good tables have the sizes that are lent
pub good_sized : (d : Domain) → Good d → Sized d
good_sized d g =
    let s = good_sound d g in
    record {
      names = omega (arith, s.users_are.ids_size);
      ids = omega (arith, s.channels_are.ids_size);
      keys = omega (arith, s.tokens_are.ids_size);
    }

-- no 9 in any run with such rooms
pub enough : (channels users tokens : ℕ) (before : Domain) (ts : List Turn) → RoomEnough channels users tokens before ts
unfolding after answer_turned
enough channels users tokens before ts z y t b h q =
    let r = serves (started channels users tokens before) ts in
    never_9 (tables r) (good_sized (tables r) (run_good channels users tokens before ts z y)) (length t.1) h (event t.0) (arrives t.0 b) q

-- nor in any run from an image
pub enough_image : (image : List ℕ) (before : Domain) (ts : List Turn) → EnoughAfterImage image before ts
unfolding after answer_turned
enough_image image before ts z i y t b h q =
    let r = serves (run (restored image before).1 []) ts in
    never_9 (tables r) (good_sized (tables r) (image_good image before ts z i y)) (length t.1) h (event t.0) (arrives t.0 b) q
