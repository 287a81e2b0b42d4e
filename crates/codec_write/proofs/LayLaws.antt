-- Octets laid one behind the other: what `put_octets` and the writers of lengths, ids and integers leave. Assumes nothing.
use mathlib.Core.Path.{◌≡◌, refl, sym, ap, ◌∙◌}
use mathlib.Core.Bool.{true}
use mathlib.Core.List.{List, [], ◌∷◌, ◌++◌, append_assoc, append-nil}
use Prim.Native.Nat.{ℕ, zero, suc, ◌+◌, ◌-◌, ◌^◌, ◌<◌, ◌≤◌}
use native.Mathlib.Nat.{div-one}
use native.Mathlib.Numerals.{add-one}
use native.Mathlib.Omega.{arith}
use lib.ListN.{length, take, drop, get_or, set, length-append, length-drop, length-set}
use lib.Seq.{take_all, take-suc, take-suc-set}
use lib.Dec.{leb}
use borrow.Author.Tests.{le-ltb, lt-ltb, leb-true}
use Rattle.std.specs.Int.{w32, to_be_bytes}
use Rattle.std.proofs.lemmas.List.{get_or-drop}
use Rattle.codec_octets.specs.Octets.{octets_of, length_octets, size, fits_item, write_item, an_id, a_number}
use Rattle.codec_octets.proofs.OctetLaws.{size_holds, both_left, both_right}
use Rattle.codec_size.proofs.LengthLaws.{length_octets_lem, length_one, number_length}
use Rattle.codec_write.specs.Writing.{Lays}

-- the last k of the four octets of a number that they hold
next_octet : {a b : ℕ} {os ps : List ℕ} → a ≡ b → os ≡ ps → a ∷ os ≡ b ∷ ps
next_octet e f = rw (e, f)

last_octets : (k v : ℕ) → k ≤ 4 → v < 256 ^ k → drop (4 - k) (to_be_bytes w32 v) ≡ octets_of k v
last_octets zero v h l = refl
last_octets (suc zero) v h l = next_octet (omega arith) refl
last_octets (suc (suc zero)) v h l = next_octet (omega arith) (next_octet (omega arith) refl)
last_octets (suc (suc (suc zero))) v h l = next_octet (omega arith) (next_octet (omega arith) (next_octet (omega arith) refl))
last_octets (suc (suc (suc (suc zero)))) v h l = next_octet (omega arith) (next_octet (omega arith) (next_octet (omega arith) (next_octet (omega arith) refl)))
last_octets (suc (suc (suc (suc (suc k))))) v h l = absurd (omega arith)

-- j octets of a number were looked at, and the last k of its four are laid as far as they are among those
pub record Laying (s : List ℕ) (i k : ℕ) (bs : List ℕ) (s' : List ℕ) (j at : ℕ) : Type 0 where
  pub place : at ≡ i + (j + k - 4)
  pub laid : take at s' ≡ take i s ++ take (j + k - 4) (drop (4 - k) bs)
  pub size : length s' ≡ length s

pub laying_start : {s : List ℕ} {i k : ℕ} {bs : List ℕ} → k ≤ 4 → Laying s i k bs s 0 i
laying_start {s} {i} {k} {bs} h =
    let none : 0 + k - 4 ≡ 0 = omega arith in
    record { place = omega arith; laid = rw none (sym (append-nil (take i s))); size = refl }

pub laying_more : {s : List ℕ} {i k : ℕ} {bs s' : List ℕ} {j at : ℕ} → Laying s i k bs s' j at → i + k ≤ length s → k ≤ 4 → j < 4 → length bs ≡ 4 → 4 ≤ j + k → Laying s i k bs (set s' at (get_or bs j 0)) (j + 1) (at + 1)
laying_more {s} {i} {k} {bs} {s'} {j} {at} l room h few n t =
    let m = j + k - 4 in
    let next : j + 1 + k - 4 ≡ suc m = omega arith in
    let here : (4 - k) + m ≡ j = omega arith in
    let octet : get_or (drop (4 - k) bs) m 0 ≡ get_or bs j 0 = get_or-drop (4 - k) bs m 0 ∙ ap (λ q. get_or bs q 0) here in
    record {
      place = omega (arith, l.place);
      laid =
          ap (λ q. take q (set s' at (get_or bs j 0))) (add-one at)
          ∙ take-suc-set s' at (get_or bs j 0) (omega (arith, l.place, l.size))
          ∙ ap (λ z. z ++ (get_or bs j 0 ∷ [])) l.laid
          ∙ append_assoc (take i s) (take m (drop (4 - k) bs)) (get_or bs j 0 ∷ [])
          ∙ ap (λ v. take i s ++ (take m (drop (4 - k) bs) ++ (v ∷ []))) (sym octet)
          ∙ ap (λ z. take i s ++ z) (sym (take-suc (drop (4 - k) bs) m 0 (omega (arith, length-drop (4 - k) bs))))
          ∙ ap (λ q. take i s ++ take q (drop (4 - k) bs)) (sym next);
      size = length-set s' at (get_or bs j 0) ∙ l.size;
    }

pub laying_past : {s : List ℕ} {i k : ℕ} {bs s' : List ℕ} {j at : ℕ} → Laying s i k bs s' j at → j + k < 4 → Laying s i k bs s' (j + 1) at
laying_past {k = k} {j = j} l t =
    let same : j + 1 + k - 4 ≡ j + k - 4 = omega arith in
    record { place = rw same l.place; laid = rw same l.laid; size = l.size }

pub laying_all : {s : List ℕ} {i k : ℕ} {bs s' : List ℕ} {j at : ℕ} (v : ℕ) → Laying s i k bs s' j at → k ≤ 4 → v < 256 ^ k → bs ≡ to_be_bytes w32 v → 4 ≤ j → j ≤ 4 → Lays s i (octets_of k v) s' at
laying_all {s} {i} {k} {bs} {j = j} v l h few e a b =
    let all : j + k - 4 ≡ k = omega arith in
    let n : length bs ≡ 4 = ap length e in
    record {
      lays = l.laid ∙ ap (λ q. take i s ++ take q (drop (4 - k) bs)) all ∙ ap (λ z. take i s ++ z) (take_all k (drop (4 - k) bs) (omega (arith, length-drop (4 - k) bs)) ∙ rw e (last_octets k v h few));
      ends = l.place ∙ ap (λ q. i + q) (all ∙ sym (length_octets_lem k v));
      size = l.size;
    }

-- one part behind the other
pub lays_both : {s : List ℕ} {i : ℕ} {os s1 : List ℕ} {j : ℕ} {ps s2 : List ℕ} {next : ℕ} → Lays s i os s1 j → Lays s1 j ps s2 next → Lays s i (os ++ ps) s2 next
lays_both {s} {i} {os} {s1} {j} {ps} a b =
    record {
      lays = b.lays ∙ ap (λ l. l ++ ps) a.lays ∙ append_assoc (take i s) os ps;
      ends = b.ends ∙ omega (arith, a.ends, length-append os ps);
      size = b.size ∙ a.size;
    }

-- a length in one octet and in two
length_small : (n : ℕ) → n < 128 → length_octets n ≡ octets_of 1 n
length_small n h = rw (lt-ltb n 128 h, div-one)

length_large : (n : ℕ) → 128 ≤ n → length_octets n ≡ octets_of 2 (n + 32768)
length_large n h = rw (le-ltb n 128 h)

pub length_lays : {s : List ℕ} {i : ℕ} {s' : List ℕ} {next : ℕ} (n : ℕ) → n < 128 → Lays s i (octets_of 1 n) s' next → Lays s i (length_octets n) s' next
length_lays n h l = rw (length_small n h) l

pub length_lays_two : {s : List ℕ} {i : ℕ} {s' : List ℕ} {next : ℕ} (n : ℕ) → 128 ≤ n → Lays s i (octets_of 2 (n + 32768)) s' next → Lays s i (length_octets n) s' next
length_lays_two n h l = rw (length_large n h) l

-- an integer
pub lays_near : {s : List ℕ} {i : ℕ} {os s' : List ℕ} {next : ℕ} → Lays s i os s' next → (n : ℕ) → i + length os ≤ n → next ≤ n
lays_near l n h = omega (arith, l.ends)

module _ (s : List ℕ) (i v k : ℕ) (small : v < 4294967296) (e : k ≡ size v) (room : i + length (write_item a_number v) ≤ length s) where
  pub number_first : (i + length (length_octets k) ≤ length s) × (k < 16384)
  number_first =
      let few : (v < 256 ^ size v) × (0 < size v) × (size v ≤ 4) = size_holds v small in
      (omega (arith, number_length v small, length_one k (omega arith)), omega arith)

  pub number_second : {s1 : List ℕ} {j : ℕ} → Lays s i (length_octets k) s1 j → (j + k ≤ length s1) × (k ≤ 4) × (v < 256 ^ k)
  number_second l =
      let few : (v < 256 ^ size v) × (0 < size v) × (size v ≤ 4) = size_holds v small in
      (omega (arith, number_length v small, length_one k (omega arith), l.ends, l.size), omega arith, rw e few.0)

  pub number_lays : {s1 s2 : List ℕ} {j next : ℕ} → Lays s i (length_octets k) s1 j → Lays s1 j (octets_of k v) s2 next → Lays s i (write_item a_number v) s2 next
  number_lays a b = rw (← e) (lays_both a b)

pub octet_lays : {s : List ℕ} {i : ℕ} {s' : List ℕ} {next : ℕ} (v : ℕ) → Lays s i (octets_of 1 v) s' next → Lays s i (v ∷ []) s' next
octet_lays v l = rw div-one at l

pub id_fits : (low v : ℕ) {room : Type 0} → fits_item (an_id low) v ≡ true → room → room × (low ≤ v) × (v ≤ 65535)
id_fits low v f r = (r, leb-true low v (both_left (leb low v) (leb v 65535) f), leb-true v 65535 (both_right (leb low v) (leb v 65535) f))
