-- Of every event, in any tables and any room: the reply is a listed one; replies 1 to 9 leave the tables unchanged; what is sent with them is
-- nothing, or with 5 and 6 the one RJum; 9 exactly when the records to send exceed the room. Assumes nothing.
use Rattle.std.specs.Prelude.{if◌then◌else◌}
use mathlib.Core.Path.{◌≡◌, refl, sym, ap, ◌∙◌}
use mathlib.Core.Bool.{Bool, true, false, not, ◌||◌}
use mathlib.Core.List.{List, []}
use mathlib.Core.Option.{Option, none, some}
use Prim.Native.Nat.{ℕ, ◌≤◌, ◌<◌}
use native.Mathlib.Omega.{arith}
use borrow.Author.Tests.{lt-ltb, le-ltb, ltb-true, ltb-false}
use lib.Dec.{eqb, ltb}
use lib.ListN.{length}
use Rattle.cols_spec.specs.Sets.{has, with, connections}
use Rattle.codec_table.specs.Messages.{may_go_up, is_served}
use Rattle.codec_table.specs.Codec.{Msg, Outcome as Read, ok, refuse, sized, decode}
use Rattle.codec_table.specs.Named.{Message, named, called, heard_as, heard}
use Rattle.codec_table.proofs.Refusals.{refusal, refusals}
use Rattle.out_records.specs.Records.{Sent, records}
use Rattle.domain.specs.declared.answer.Answer.{Answer}
use Rattle.domain.specs.Numbers.{reply_number}
use Rattle.domain.specs.Tables.{Domain, put_links, grant}
use Rattle.domain.specs.Leaving.{close}
use Rattle.domain.specs.Effects.{Effect, ignored, done, Settled, answered}
use Rattle.domain.specs.Events.{Reading, reads, refuses, Event, opens, loses, hears, Outcome, stays, sends, ends, complaint, act, answers, step_with, step}
use Rattle.domain.proofs.OneNumber.{same_reply}
use Rattle.serve_read.specs.Understood.{number_in, read_as, understood}
use Rattle.serve_read.specs.Readings.{reply_for}
use Rattle.serve_read.proofs.Understanding.{reply_for_is}

-- ---- events as they come: a message is what is understood of its octets
abbrev pub Comes : Event → Type 0
Comes (opens p) = Unit {0}
Comes (loses p) = Unit {0}
Comes (hears p m) = (os : List ℕ) × (m ≡ understood os)

-- what is sent with a reply other than 0
abbrev pub complained : Event → ℕ → List Sent
complained (opens p) n = []
complained (loses p) n = []
complained (hears p (reads m)) n = []
complained (hears p (refuses k os)) n = complaint n p os

-- one answer, for every room: 9 only takes its place
pub record Answering (d : Domain) (e : Event) : Type 0 where
  pub reply : ℕ
  pub after : Domain
  pub sent : List Sent
  pub always : (room : ℕ) → step d e room ≡ sends d room reply after sent
  pub listed : reply ≤ 8
  pub unchanged : (reply ≡ 0 → ⊥) → after ≡ d
  pub told : (reply ≡ 0 → ⊥) → sent ≡ complained e reply

-- ---- what is understood is refused with 4 to 8 alone
abbrev pub Fair : Reading → Type 0
Fair (reads m) = Unit {0}
Fair (refuses n os) = (4 ≤ n) × (n ≤ 8)

either_fair : (b : Bool) (x y : Reading) → Fair x → Fair y → Fair (if b then x else y)
either_fair true x y h k = h
either_fair false x y h k = k

either_most : (b : Bool) (x y : ℕ) → (4 ≤ x) × (x ≤ 8) → (4 ≤ y) × (y ≤ 8) → (4 ≤ (if b then x else y)) × ((if b then x else y) ≤ 8)
either_most true x y h k = h
either_most false x y h k = k

refusal_most : (n : ℕ) → refusal n ≡ true → (4 ≤ n) × (n ≤ 8)
unfolding reply_for
refusal_most n h =
    rw (reply_for_is n h) at
    (either_most (eqb n 4) 4 _ (omega arith) (either_most (eqb n 5) 5 _ (omega arith) (either_most (eqb n 7) 7 8 (omega arith) (omega arith))))

named_fair : (os : List ℕ) (o : Option Message) → Fair (read_as os (called o))
unfolding read_as
named_fair os none = omega arith
named_fair os (some m) = tt

heard_fair : (os : List ℕ) → Fair (read_as os (heard os))
unfolding heard read_as
heard_fair os = go (decode os) refl
  where
    go : (o : Read Msg) → decode os ≡ o → Fair (read_as os (heard_as o))
    go (ok x) e = named_fair os (named x)
    go (refuse n) e = refusal_most n (refusals os n e)

pub understood_fair : (os : List ℕ) → Fair (understood os)
unfolding understood
understood_fair os =
    either_fair (not (sized os)) (refuses 4 os) _ (omega arith)
    (either_fair (ltb 42 (number_in os)) (refuses 5 os) _ (omega arith)
    (either_fair (not (may_go_up (number_in os))) (refuses 6 os) _ (omega arith)
    (either_fair (not (is_served (number_in os))) (refuses 7 os) _ (omega arith) (heard_fair os))))

-- ---- each event has one answer
stays_sends : (d : Domain) (n room : ℕ) → stays d n ≡ sends d room n d []
unfolding sends records
stays_sends d n room = rw (le-ltb room 0 (omega arith)) refl

module _ (d : Domain) (e : Event) where
  refused_with : (n : ℕ) → n ≤ 8 → ((room : ℕ) → step d e room ≡ sends d room n d (complained e n)) → Answering d e
  refused_with n h s = record { reply = n; after = d; sent = complained e n; always = s; listed = h; unchanged = λ z. refl; told = λ z. refl }

  quiet : (n : ℕ) → n ≤ 8 → complained e n ≡ [] → ((room : ℕ) → step d e room ≡ stays d n) → Answering d e
  quiet n h z s = refused_with n h λ room. s room ∙ stays_sends d n room ∙ ap (λ (rs : List Sent). sends d room n d rs) (sym z)

  done_with : (a : Domain) (rs : List Sent) → ((room : ℕ) → step d e room ≡ sends d room 0 a rs) → Answering d e
  done_with a rs s =
      record {
        reply = 0;
        after = a;
        sent = rs;
        always = s;
        listed = omega arith;
        unchanged = λ z. absurd (z refl);
        told = λ z. absurd (z refl);
      }

  ended_with : (x : Effect Domain) → complained e 1 ≡ [] → ((room : ℕ) → step d e room ≡ ends d room x) → Answering d e
  unfolding ends
  ended_with ignored z s = quiet 1 (omega arith) z s
  ended_with (done a rs) z s = done_with a rs s

opens_answers : (d : Domain) (p : ℕ) → Answering d (opens p)
unfolding step step_with sends records
opens_answers d p = go (ltb 15 p) refl
  where
    joins : (b : Bool) → has d.links p ≡ b → ltb 15 p ≡ false → Answering d (opens p)
    joins true h k = quiet d (opens p) 3 (omega arith) refl (λ room. rw (k, h) refl)
    joins false h k = done_with d (opens p) (put_links d (with connections d.links p)) [] (λ room. rw (k, h, le-ltb room 0 (omega arith)) refl)

    go : (b : Bool) → ltb 15 p ≡ b → Answering d (opens p)
    go true h = quiet d (opens p) 2 (omega arith) refl (λ room. rw h refl)
    go false h = joins (has d.links p) refl h

loses_answers : (d : Domain) (p : ℕ) → Answering d (loses p)
unfolding step step_with
loses_answers d p = go (ltb 15 p || not (has d.links p)) refl
  where
    go : (b : Bool) → (ltb 15 p || not (has d.links p)) ≡ b → Answering d (loses p)
    go true h = quiet d (loses p) 2 (omega arith) refl (λ room. rw h refl)
    go false h = ended_with d (loses p) (close d p) refl (λ room. rw h refl)

hears_answers : (d : Domain) (p : ℕ) (m : Reading) → Fair m → Answering d (hears p m)
unfolding step step_with answers complaint
hears_answers d p (reads m) f = go (ltb 15 p || not (has d.links p)) refl
  where
    go : (b : Bool) → (ltb 15 p || not (has d.links p)) ≡ b → Answering d (hears p (reads m))
    go true h = quiet d (hears p (reads m)) 2 (omega arith) refl (λ room. rw h refl)
    go false h = ended_with d (hears p (reads m)) (act (grant d.channels) d p m) refl (λ room. rw h refl)
hears_answers d p (refuses n os) f = go (ltb 15 p || not (has d.links p)) refl
  where
    go : (b : Bool) → (ltb 15 p || not (has d.links p)) ≡ b → Answering d (hears p (refuses n os))
    go true h = quiet d (hears p (refuses n os)) 2 (omega arith) refl (λ room. rw h refl)
    go false h = refused_with d (hears p (refuses n os)) n f.1 (λ room. rw h refl)

pub answering : (d : Domain) (e : Event) → Comes e → Answering d e
answering d (opens p) c = opens_answers d p
answering d (loses p) c = loses_answers d p
answering d (hears p m) c = hears_answers d p m (rw c.1 (understood_fair c.0))

-- with 9 nothing is sent
nothing_at_9 : (e : Event) → [] ≡ complained e 9
unfolding complaint
nothing_at_9 (opens p) = refl
nothing_at_9 (loses p) = refl
nothing_at_9 (hears p (reads m)) = refl
nothing_at_9 (hears p (refuses n os)) = refl

-- ---- the demand, room by room
module _ (d : Domain) (e : Event) (a : Answering d e) (room : ℕ) where
  -- 9 exactly when the records to send exceed the room
  pub full_is_9 : room < length (records a.sent) → step d e room ≡ stays d 9
  unfolding sends
  full_is_9 h = a.always room ∙ rw (lt-ltb room (length (records a.sent)) h) refl

  pub fits_is_sent : length (records a.sent) ≤ room → step d e room ≡ record { reply = a.reply; domain = a.after; sent = a.sent }
  unfolding sends
  fits_is_sent h = a.always room ∙ rw (le-ltb room (length (records a.sent)) h) refl

  pub only_full_is_9 : (step d e room).reply ≡ 9 → room < length (records a.sent)
  only_full_is_9 n = go (ltb room (length (records a.sent))) refl
    where
      go : (b : Bool) → ltb room (length (records a.sent)) ≡ b → room < length (records a.sent)
      go true h = ltb-true room (length (records a.sent)) h
      go false h =
          let z : (step d e room).reply ≡ a.reply = ap (λ (o : Outcome). o.reply) (fits_is_sent (ltb-false room (length (records a.sent)) h)) in
          absurd (let l = a.listed in omega arith)

  -- either way: what holds of 9 and of the answer
  by_room : (P : Outcome → Type 0) → P (stays d 9) → P (record { reply = a.reply; domain = a.after; sent = a.sent }) → P (step d e room)
  by_room P h k = go (ltb room (length (records a.sent))) refl
    where
      go : (b : Bool) → ltb room (length (records a.sent)) ≡ b → P (step d e room)
      go true t = rw (full_is_9 (ltb-true room (length (records a.sent)) t)) h
      go false t = rw (fits_is_sent (ltb-false room (length (records a.sent)) t)) k

  pub reply_listed : (step d e room).reply ≤ 9
  reply_listed = by_room (λ (o : Outcome). o.reply ≤ 9) (omega arith) (let l = a.listed in omega arith)

  pub tables_unchanged : ((step d e room).reply ≡ 0 → ⊥) → (step d e room).domain ≡ d
  tables_unchanged = by_room (λ (o : Outcome). (o.reply ≡ 0 → ⊥) → o.domain ≡ d) (λ z. refl) a.unchanged

  pub complaint_sent : ((step d e room).reply ≡ 0 → ⊥) → (step d e room).sent ≡ complained e (step d e room).reply
  complaint_sent = by_room (λ (o : Outcome). (o.reply ≡ 0 → ⊥) → o.sent ≡ complained e o.reply) (λ z. nothing_at_9 e) a.told

-- ---- one outcome: what a promise allows is one answer, one set of tables and one room
pub one_outcome : {A : Type 0} (r q : Answer) {a b : A} {o t : List ℕ} (s : Settled A) → answered r a o ≡ s → answered q b t ≡ s → (r ≡ q) × (a ≡ b) × (o ≡ t)
one_outcome {A} r q s e f =
    let z = e ∙ sym f in
    let n = same_reply r.reply q.reply (ap (λ (x : Settled A). x.reply) z) in
    let k = ap (λ (x : Settled A). x.sent) z in
    (λ i. record { reply = n i; sent = k i }, ap (λ (x : Settled A). x.tables) z, ap (λ (x : Settled A). x.room) z)
