-- Records told one behind the other. Assumes nothing.
use Prim.Native.Nat.{ℕ, zero, suc, ◌+◌, ◌-◌, ◌%◌, ◌≤◌, ◌<◌}
use mathlib.Core.Path.{◌≡◌, refl, sym, ap, ◌∙◌}
use mathlib.Core.Bool.{Bool, true, false, and-false}
use mathlib.Core.List.{List, [], ◌++◌}
use native.Mathlib.Omega.{arith}
use borrow.Author.Tests.{eq-eqb, ne_eqb, le-leb, lt-leb, leb-true, leb-false, lt-ltb, le-ltb}
use lib.Dec.{leb}
use lib.ListN.{length, take, drop, length-drop}
use lib.Seq.{length-take-le, take_all, drop-drop}
use Rattle.trace_frames.specs.Frames.{size_of}
use Rattle.trace_io.specs.Waiting.{SaysTo}
use Rattle.trace_io.specs.declared.lines.Lines.{Lines}
use Rattle.trace_io.proofs.Saying.{Onward, onward_start, onward_step, onward_end}
use Rattle.explain_frame.specs.Sent.{record_size, record_texts, first_texts, records_texts, sent_texts}

-- the size of the record at the front, by the tests
module _ (s : List ℕ) where
  pub size_short : size_of s < 4 → 0 ≡ record_size s
  unfolding record_size
  size_short h = rw (lt-leb 4 (size_of s) h) refl

  pub size_cut : length s < size_of s → 0 ≡ record_size s
  unfolding record_size
  size_cut h = rw (lt-leb (size_of s) (length s) h, and-false) refl

  pub size_whole : 4 ≤ size_of s → size_of s ≤ length s → size_of s ≡ record_size s
  unfolding record_size
  size_whole a b = rw (le-leb 4 (size_of s) a, le-leb (size_of s) (length s) b) refl

  pub size_few : length s < 4 → 0 ≡ record_size s
  size_few h = go (leb 4 (size_of s)) refl
    where
      go : (a : Bool) → leb 4 (size_of s) ≡ a → 0 ≡ record_size s
      go true e = let l = leb-true 4 (size_of s) e in size_cut (omega arith)
      go false e = size_short (leb-false 4 (size_of s) e)

  -- a record that is there has at least 4 octets, and all of them
  pub size_kept : (record_size s ≤ length s) × (0 < record_size s → 4 ≤ record_size s)
  size_kept = go (leb 4 (size_of s)) refl (leb (size_of s) (length s)) refl
    where
      none : 0 ≡ record_size s → (record_size s ≤ length s) × (0 < record_size s → 4 ≤ record_size s)
      none e = (omega (arith, e), λ h. absurd (omega (arith, e, h)))

      go : (a : Bool) → leb 4 (size_of s) ≡ a → (b : Bool) → leb (size_of s) (length s) ≡ b → (record_size s ≤ length s) × (0 < record_size s → 4 ≤ record_size s)
      go false e b f = none (size_short (leb-false 4 (size_of s) e))
      go true e false f = none (size_cut (leb-false (size_of s) (length s) f))
      go true e true f =
          let l = leb-true 4 (size_of s) e in
          let m = leb-true (size_of s) (length s) f in
          let h : size_of s ≡ record_size s = size_whole l m in
          (rw (← h) m, λ _. rw (← h) l)

-- one record is told, and those behind it
first_next : (n : ℕ) (s : List ℕ) → 0 < record_size s
    → first_texts (suc n) s ≡ record_texts (take (record_size s) s) ++ first_texts n (drop (record_size s) s)
unfolding first_texts
first_next n s h = rw (ne_eqb (record_size s) 0 (λ e. omega (arith, e))) refl

first_end : (n : ℕ) (s : List ℕ) → record_size s ≡ 0 → first_texts n s ≡ []
unfolding first_texts
first_end zero s e = refl
first_end (suc n) s e = rw (eq-eqb (record_size s) 0 e) refl

-- a loop that tells records: those from `from` on are not told yet, and the next has so many octets
pub record Sending (s : List ℕ) {n : ℕ} (old new : Lines n) (from size : ℕ) : Type 0 where
  pub next : size ≡ record_size (drop from s)
  pub inside : from + size ≤ length s
  pub least : 0 < size → 4 ≤ size
  pub turns : ℕ
  pub enough : length s ≤ from + turns
  pub onward : Onward old (records_texts s) new (first_texts turns (drop from s))

pub sending_start : {s : List ℕ} {n : ℕ} {old : Lines n} (size : ℕ) → size ≡ record_size s → Sending s old old 0 size
unfolding records_texts
sending_start {s} size e =
    let k = size_kept s in
    record {
      next = e;
      inside = omega (arith, k.0);
      least = rw e k.1;
      turns = length s;
      enough = omega arith;
      onward = onward_start;
    }

pub sending_more : {s : List ℕ} {w : ℕ} {old mid new : Lines w} {from size : ℕ} (n : ℕ) → Sending s old mid from size → 0 < size
    → n ≡ record_size (take (length s - (from + size)) (drop (from + size) s)) → SaysTo mid (record_texts (take (from + size - from) (drop from s))) new
    → Sending s old new (from + size) n
sending_more {s} {from = from} {size = size} n t h e told =
    let here : n ≡ record_size (drop (from + size) s) = e ∙ ap record_size (take_all (length s - (from + size)) (drop (from + size) s) (omega (arith, length-drop (from + size) s))) in
    let k = size_kept (drop (from + size) s) in
    let m : from + size - from ≡ size = omega arith in
    let left : suc (t.turns - 1) ≡ t.turns = omega (arith, t.enough, t.inside) in
    let rest : drop (record_size (drop from s)) (drop from s) ≡ drop (from + size) s = ap (λ j. drop j (drop from s)) (sym t.next) ∙ drop-drop size from s in
    record {
      next = here;
      inside = omega (arith, here, k.0, length-drop (from + size) s, t.inside);
      least = rw here k.1;
      turns = t.turns - 1;
      enough = omega (arith, t.enough, h);
      onward =
          onward_step (record_texts (take size (drop from s))) (first_texts t.turns (drop from s)) t.onward
          (ap (λ j. first_texts j (drop from s)) (sym left)
          ∙ first_next (t.turns - 1) (drop from s) (omega (arith, t.next, h))
          ∙ ap (λ j. record_texts (take j (drop from s)) ++ first_texts (t.turns - 1) (drop (record_size (drop from s)) (drop from s))) (sym t.next)
          ∙ ap (λ d. record_texts (take size (drop from s)) ++ first_texts (t.turns - 1) d) rest)
          (rw m at told);
    }

-- the next record has its connection
pub sending_whole : {s : List ℕ} {n : ℕ} {old new : Lines n} {from size : ℕ} → Sending s old new from size → 0 < size → 4 ≤ length (take (from + size - from) (drop from s))
sending_whole {s} {from = from} {size = size} t h =
    omega (arith, length-take-le (from + size - from) (drop from s) (omega (arith, t.inside, length-drop from s)), t.least h)

pub sending_end : {s : List ℕ} {n : ℕ} {old new : Lines n} {from size : ℕ} → Sending s old new from size → size ≤ 0 → SaysTo old (records_texts s) new
sending_end {s} {from = from} t h = onward_end (first_texts t.turns (drop from s)) t.onward (first_end t.turns (drop from s) (omega (arith, t.next)))

-- the first octets of the room, where it has so many
pub sent_none : (sent : ℕ) (room : List ℕ) → length room < sent % 65536 → [] ≡ sent_texts sent room
unfolding sent_texts
sent_none sent room h = rw (lt-ltb (length room) (sent % 65536) h) refl

pub sent_some : (sent : ℕ) (room : List ℕ) → sent % 65536 ≤ length room → records_texts (take (sent % 65536) room) ≡ sent_texts sent room
unfolding sent_texts
sent_some sent room h = rw (le-ltb (length room) (sent % 65536) h) refl
