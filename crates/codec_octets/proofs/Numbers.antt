-- A number in some octets: what `fewest_octets` and `read_counted` answer. Assumes nothing.
use mathlib.Core.Path.{◌≡◌, refl, sym, ap, ◌∙◌}
use mathlib.Core.List.{List, [], ◌∷◌}
use Prim.Native.Nat.{ℕ, zero, suc, ◌+◌, ◌-◌, ◌*◌, ◌^◌, ◌<◌, ◌≤◌}
use native.Mathlib.Nat.{pow-suc, pow-le-pow_right, le_trans, add-zero, sub-zero}
use native.Mathlib.Numerals.{add-one}
use native.Mathlib.Omega.{arith}
use lib.ListN.{length, get_or, take, drop, length-drop}
use lib.Seq.{length-take-le}
use Rattle.std.proofs.lemmas.List.{get_or-take, get_or-drop}
use lib.Arith.{digits_lt}
use lib.Dec.{eqb}
use borrow.Author.Tests.{eq-eqb, ne_eqb, lt-ltb, le-ltb, le-leb, lt-leb}
use Rattle.codec_octets.specs.Octets.{got, no, follow, need, give, number_from, number, size, fewest, counted, read_item, read_length, a_number}
use Rattle.codec_octets.specs.Places.{Octetwise}
use Rattle.codec_octets.specs.declared.Got.{Got}
use Rattle.codec_octets.specs.declared.refusal.Refusal.{Refusal}
use Rattle.codec_octets.specs.declared.refusal.Refusal.TheVariants.{BadEncoding, TooLong}
use Rattle.std.specs.Prelude.{Result, Ok, Err}
use Rattle.codec_octets.proofs.Reading.{octet_at}

number_short : (k acc : ℕ) (xs : List ℕ) → length xs < k → number_from k acc xs ≡ no 5
number_short zero acc xs h = absurd (omega arith)
number_short (suc k) acc [] h = refl
number_short (suc k) acc (x ∷ xs) h = number_short k (acc * 256 + x) xs (omega arith)

-- j of the octets are read, and their value is v
pub record Sofar (s : List ℕ) (i k v j : ℕ) : Type 0 where
  pub within : j ≤ k
  pub room : i + k ≤ length s
  pub small : v < 256 ^ j
  pub read : number k (drop i s) ≡ number_from (k - j) v (drop (i + j) s)

pub sofar_none : (s : List ℕ) (i k : ℕ) → i ≤ length s → k ≤ length s - i → Sofar s i k 0 0
sofar_none s i k l h = record { within = omega arith; room = omega arith; small = omega arith; read = rw (sub-zero, add-zero) }

-- the octets that the loop goes through
abbrev pub octets_at : (s : List ℕ) (i k : ℕ) → List ℕ
octets_at s i k = take (i + k - i) (drop i s)

module _ {s : List ℕ} {i k v j : ℕ} (f : Sofar s i k v j) where
  many : length (octets_at s i k) ≡ k
  many = let e : i + k - i ≡ k = omega arith in rw e (length-take-le k (drop i s) (omega (arith, f.room, length-drop i s)))

  pub sofar_fits : j < length (octets_at s i k) → k ≤ 4 → v < 16777216
  sofar_fits a b = le_trans f.small (pow-le-pow_right {n = 256} (omega arith) {i = j} {j = 3} (omega (arith, many)))

  pub sofar_more : (o : ℕ) → j < length (octets_at s i k) → o < 256 → o ≡ get_or (octets_at s i k) j 0 → Sofar s i k (v * 256 + o) (j + 1)
  sofar_more o a b e =
      let here : i + k - i ≡ k = omega arith in
      let more : j < k = omega (arith, many) in
      let same : o ≡ get_or s (i + j) 0 = (rw here at e) ∙ get_or-take k (drop i s) j 0 more ∙ get_or-drop i s j 0 in
      let left : k - j ≡ suc (k - (j + 1)) = omega arith in
      let place : i + j + 1 ≡ i + (j + 1) = omega arith in
      record {
        within = omega arith;
        room = f.room;
        small = rw (add-one, pow-suc) (digits_lt f.small b);
        read = f.read ∙ rw (left, octet_at s (i + j) o (omega (arith, f.room)) same, place);
      }

  pub sofar_all : length (octets_at s i k) ≤ j → k ≤ j
  sofar_all h = omega (arith, many)

module _ (s : List ℕ) (i k : ℕ) where
  pub fewest_short : i ≤ length s → length s - i < k → Octetwise s (Err BadEncoding) (fewest k (drop i s))
  unfolding fewest
  fewest_short l h =
      record { same = sym (ap (λ r. follow r (λ v. need (eqb (size v) k) 5 (give v))) (number_short k 0 (drop i s) (omega (arith, length-drop i s)))); inside = tt }

  module _ {v j : ℕ} (n : ℕ) (f : Sofar s i k v j) (a : length (octets_at s i k) ≤ j) (e : n ≡ size v) where
    whole : number k (drop i s) ≡ got v (drop (i + k) s)
    whole =
        let z : j ≡ k = omega (arith, f.within, sofar_all f a) in
        let y : k - j ≡ 0 = omega (arith, sofar_all f a) in
        f.read ∙ rw (y, z)

    pub fewest_more : (n ≡ k → ⊥) → Octetwise s (Err BadEncoding) (fewest k (drop i s))
    unfolding fewest
    fewest_more h =
        record { same = sym (ap (λ r. follow r (λ v. need (eqb (size v) k) 5 (give v))) whole ∙ simp (ne_eqb (size v) k (rw e at h))); inside = tt }

    pub fewest_is : n ≡ k → Octetwise s (Ok (record { value = v; next = i + k })) (fewest k (drop i s))
    unfolding fewest
    fewest_is h =
        record {
          same = sym (ap (λ r. follow r (λ v. need (eqb (size v) k) 5 (give v))) whole ∙ simp (eq-eqb (size v) k (rw e at h)));
          inside = f.room;
        }

  pub counted_none : k ≡ 0 → Octetwise s (Err BadEncoding) (counted k (drop i s))
  unfolding counted
  counted_none h = record { same = simp (le-ltb 0 k (omega arith)); inside = tt }

  pub counted_more : (k ≡ 0 → ⊥) → 4 < k → Octetwise s (Err TooLong) (counted k (drop i s))
  unfolding counted
  counted_more h l = record { same = simp (lt-ltb 0 k (omega arith), lt-leb k 4 l); inside = tt }

  pub counted_is : (r : Result Got Refusal) → (k ≡ 0 → ⊥) → k ≤ 4 → Octetwise s r (fewest k (drop i s)) → Octetwise s r (counted k (drop i s))
  unfolding counted
  counted_is r h l b = simp (lt-ltb 0 k (omega arith), le-leb k 4 l) b

-- an integer, by its length
module _ (s : List ℕ) (i : ℕ) where
  pub number_no : (r : Refusal) → Octetwise s (Err r) (read_length (drop i s)) → Octetwise s (Err r) (read_item a_number (drop i s))
  unfolding read_item
  number_no r b = record { same = ap (λ r. follow r counted) b.same; inside = tt }

  pub number_is : (g : Got) (r : Result Got Refusal) → Octetwise s (Ok g) (read_length (drop i s)) → Octetwise s r (counted g.value (drop g.next s))
      → Octetwise s r (read_item a_number (drop i s))
  unfolding read_item
  number_is g r b c = record { same = c.same ∙ ap (λ r. follow r counted) b.same; inside = c.inside }
