-- An RJum with a message's first octets: how long it is, and how it is sent. Assumes nothing.
use mathlib.Core.Path.{◌≡◌, refl, ap}
use mathlib.Core.List.{List, [], ◌∷◌}
use Prim.Native.Nat.{ℕ, ◌+◌, ◌≤◌, ◌<◌, min}
use native.Mathlib.Omega.{arith}
use borrow.Author.Tests.{ne_eqb}
use lib.ListN.{length, take}
use Rattle.codec_table.specs.Named.{RJum}
use Rattle.out_records.specs.Records.{to, wire, record_of, records}
use Rattle.out_records.specs.Out.{Puts, guarded}
use Rattle.out_records.proofs.Laying.{held, held_length, held_inside, held_count}
use Rattle.out_records.proofs.Telling.{put_sent, sent_length}
use Rattle.out_records.proofs.Wire.{first_few, first_length, wire_reject}
use Rattle.domain.specs.Effects.{settled, delivers}
use Rattle.domain.specs.Events.{complaint}
use Rattle.domain.proofs.Effects.{delivers_full, delivers_done, delivers_none}

pub rejection_length : (os : List ℕ) (d : ℕ) → d < 256 → length (wire (RJum d (take 16 os))) ≤ 19
rejection_length os d l =
    let n : ℕ = min 16 (length os) in
    omega (arith, ap length (wire_reject os n refl d l), first_length os n refl, first_few os n refl)

-- the message laid into a list of its own
module _ (os : List ℕ) (d : ℕ) (l : d < 256) (s t : List ℕ) (n : ℕ) (put : Puts s 0 (wire (RJum d (take 16 os))) t n) (size : length s ≡ 19) where
  fits : length (wire (RJum d (take 16 os))) ≤ length s
  fits = omega (arith, rejection_length os d l)

  pub rejection_inside : n ≤ length t
  rejection_inside = held_inside put fits

  pub rejection_count : n ≡ length (take n t)
  rejection_count = held_count put fits

  pub rejection_few : n ≤ 19
  rejection_few = omega (arith, held_length put fits, rejection_length os d l)

  module _ {A : Type 0} (k p : ℕ) (a : A) (out : List ℕ) where
    pub rejection_full : length out < n + 4 → settled 9 0 a out ≡ delivers k a a (to p (RJum d (take 16 os)) ∷ []) out
    rejection_full h =
        delivers_full k a a (to p (RJum d (take 16 os)) ∷ []) out (n + 4) (omega (arith, held_length put fits, sent_length p (RJum d (take 16 os)))) h

    pub rejection_sent : n + 4 ≤ length out → (o : List ℕ) (m : ℕ) → Puts out 0 (guarded 0 (take n t) (record_of (take n t) p)) o m
        → settled k m a o ≡ delivers k a a (to p (RJum d (take 16 os)) ∷ []) out
    rejection_sent h o m q =
        let x = RJum d (take 16 os) in
        let r : Puts out 0 (records (to p x ∷ [])) o m = put_sent x (take n t) (held put fits) (omega arith) (omega (arith, rejection_count, rejection_few)) p q in
        delivers_done k a a (to p x ∷ []) out m r.next (omega (arith, r.next, held_length put fits, sent_length p x)) out o m refl r

-- what a reply is answered with
module _ {A : Type 0} (a : A) (n p diagnostic : ℕ) (os out : List ℕ) where
  pub complains_bad : n ≡ 5 → diagnostic ≡ 4 → delivers n a a (to p (RJum diagnostic (take 16 os)) ∷ []) out ≡ delivers n a a (complaint n p os) out
  unfolding complaint
  complains_bad h e = rw (h, e) refl

  pub complains_forbidden : n ≡ 6 → diagnostic ≡ 2 → delivers n a a (to p (RJum diagnostic (take 16 os)) ∷ []) out ≡ delivers n a a (complaint n p os) out
  unfolding complaint
  complains_forbidden h e = rw (h, e) refl

pub complains_none : {A : Type 0} (a : A) (n p : ℕ) (os out : List ℕ) → (n ≡ 5 → ⊥) → (n ≡ 6 → ⊥) → settled n 0 a out ≡ delivers n a a (complaint n p os) out
unfolding complaint
complains_none a n p os out h k = rw (ne_eqb n 5 h, ne_eqb n 6 k) (delivers_none n a a out)
