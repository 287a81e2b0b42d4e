-- What is written is read back, and nothing else is read: of each part that starts on an octet.
use mathlib.Core.Path.{◌≡◌, refl, ap, ◌∙◌}
use mathlib.Core.Bool.{Bool, true, false, cond, ◌&&◌}
use mathlib.Core.List.{List, [], ◌∷◌, ◌++◌, append_assoc}
use Prim.Native.Nat.{ℕ, zero, suc, ◌+◌, ◌-◌, ◌*◌, ◌/◌, ◌%◌, ◌^◌, ◌<◌, ◌≤◌}
use native.Mathlib.Nat.{pow-succ', div-add-mod', mod-lt, one-le-pow, add-mul, mul_assoc, le_trans, pow-le-pow_right}
use native.Mathlib.Omega.{arith}
use lib.ListN.{length}
use lib.Dec.{leb, ltb, eqb}
use lib.Arith.{digits_lt, digits_div, digits_mod}
use borrow.Author.Tests.{ltb-true, ltb-false, leb-true, eqb-true, lt-ltb, le-ltb, le-leb, eq-eqb}
use Rattle.codec_octets.specs.Octets.{Read, got, no, Reader, follow, ◌>>=◌, give, need, octet, octets_of, number_from, number, length_octets, two_octets, read_length, size, fewest, counted, Item, an_octet, an_id, a_number, fits_item, write_item, read_item, fits_items, write_items, read_items, Tail, nothing, list, fits_tail, write_tail, read_tail, Bytes}

pub bytes_behind : (xs os : List ℕ) → Bytes (xs ++ os) → Bytes os
bytes_behind [] os b = b
bytes_behind (x ∷ xs) os b = bytes_behind xs os b.1

-- a reader that takes back what a writer gives, of what fits, and takes nothing else
pub record Exact {A : Type 0} (fits : A → Bool) (write : A → List ℕ) (read : Reader A) : Type 0 where
  pub back : (a : A) → fits a ≡ true → (os : List ℕ) → read (write a ++ os) ≡ got a os
  pub only : (a : A) (xs os : List ℕ) → Bytes xs → read xs ≡ got a os → (fits a ≡ true) × (xs ≡ write a ++ os)

-- the steps of a reader that gave a value
pub refused : {A : Type 0} {n : ℕ} {a : A} {os : List ℕ} → no n ≡ got a os → ⊥
refused e = let z : ◌≡◌ {A = ℕ} 0 1 = cc in omega arith

pub followed : {A B G : Type 0} (r : Read A) (k : A → Reader B) {b : B} {end : List ℕ} → follow r k ≡ got b end
    → ((a : A) (os : List ℕ) → r ≡ got a os → k a os ≡ got b end → G) → G
followed (got a os) k e g = g a os refl e
followed (no n) k e g = absurd (refused e)

pub needed : {A G : Type 0} (t : Bool) (n : ℕ) (r : Reader A) (xs : List ℕ) {a : A} {os : List ℕ} → need t n r xs ≡ got a os
    → (t ≡ true → r xs ≡ got a os → G) → G
needed true n r xs e g = g refl e
needed false n r xs e g = absurd (refused e)

pub go_on : {A B : Type 0} {r : Read A} (k : A → Reader B) {a : A} {os : List ℕ} → r ≡ got a os → follow r k ≡ k a os
go_on k e = ap (λ r. follow r k) e

pub both : {s t : Bool} → s ≡ true → t ≡ true → s && t ≡ true
both p q = rw (p, q)

pub both_left : (s t : Bool) → s && t ≡ true → s ≡ true
both_left true t e = refl
both_left false t e = e

pub both_right : (s t : Bool) → s && t ≡ true → t ≡ true
both_right true t e = e
both_right false t e = absurd (let z : ◌≡◌ {A = ℕ} 0 1 = cc in omega arith)

-- numbers
positive : (k : ℕ) → 0 < 256 ^ k
positive k = one-le-pow k 256 (omega arith)

number_back : (k v acc : ℕ) (os : List ℕ) → v < 256 ^ k → number_from k acc (octets_of k v ++ os) ≡ got (acc * 256 ^ k + v) os
number_back zero v acc os h = ap (λ (n : ℕ). got n os) (omega arith)
number_back (suc k) v acc os h =
    number_back k (v % 256 ^ k) (acc * 256 + v / 256 ^ k) os (mod-lt v (positive k))
    ∙ ap (λ (n : ℕ). got n os) (simp (pow-succ', add-mul, mul_assoc) (omega (arith, div-add-mod' v (256 ^ k))))

number_only : (k acc : ℕ) (xs : List ℕ) {n : ℕ} {os : List ℕ} → Bytes xs → number_from k acc xs ≡ got n os
    → (v : ℕ) × (v < 256 ^ k) × (n ≡ acc * 256 ^ k + v) × (xs ≡ octets_of k v ++ os)
number_only zero acc xs {n} b e = let z : acc ≡ n = cc in (0, omega arith, omega arith, cc)
number_only (suc k) acc [] b e = absurd (refused e)
number_only (suc k) acc (x ∷ xs) b e =
    let r = number_only k (acc * 256 + x) xs b.1 e in (
      x * 256 ^ k + r.0,
      rw pow-succ' (digits_lt b.0 r.1),
      r.2 ∙ simp (pow-succ', add-mul, mul_assoc) (omega arith),
      simp (digits_div x r.1, digits_mod x r.1) (ap (λ (l : List ℕ). x ∷ l) r.3),
    )

pub number_exact : (k : ℕ) → Exact (λ (v : ℕ). ltb v (256 ^ k)) (octets_of k) (number k)
number_exact k =
    record {
      back = λ v h os. number_back k v 0 os (ltb-true v (256 ^ k) h) ∙ ap (λ (n : ℕ). got n os) (omega arith);
      only = λ v xs os b e.
          let r = number_only k 0 xs b e in
          let z : r.0 ≡ v = omega (arith, r.2) in
          (lt-ltb v (256 ^ k) (rw z at r.1), rw z at r.3);
    }

-- lengths
length_back : (n : ℕ) → ltb n 16384 ≡ true → (os : List ℕ) → read_length (length_octets n ++ os) ≡ got n os
unfolding read_length
length_back n h os = go (ltb n 128) refl
  where
    go : (t : Bool) → ltb n 128 ≡ t → read_length (length_octets n ++ os) ≡ got n os
    go true e = simp e
    go false e =
        let low : 128 ≤ n = ltb-false n 128 e in
        let high : n < 16384 = ltb-true n 16384 h in
        let value : ((n + 32768) / 256 - 128) * 256 + (n + 32768) % 256 / 1 ≡ n = omega arith in
        simp (e, le-ltb ((n + 32768) / 256) 128 (omega arith), lt-ltb ((n + 32768) / 256) 192 (omega arith), value, le-leb 128 n low)

length_only : (n : ℕ) (xs os : List ℕ) → Bytes xs → read_length xs ≡ got n os → (ltb n 16384 ≡ true) × (xs ≡ length_octets n ++ os)
unfolding read_length
length_only n [] os b e = absurd (refused e)
length_only n (o ∷ xs) os b e = go (ltb o 128) refl e
  where
    go : (t : Bool) → ltb o 128 ≡ t → cond t (give o) (need (ltb o 192) 8 (two_octets o)) xs ≡ got n os
        → (ltb n 16384 ≡ true) × (o ∷ xs ≡ length_octets n ++ os)
    go true t e =
        let z : o ≡ n = cc in
        (lt-ltb n 16384 (omega (arith, ltb-true o 128 t)), simp (← z, t) (cc))
    go false t e = needed (ltb o 192) 8 (two_octets o) xs e (λ high. two xs b.1 (ltb-false o 128 t) (ltb-true o 192 high))
      where
        two : (ys : List ℕ) → Bytes ys → 128 ≤ o → o < 192 → two_octets o ys ≡ got n os → (ltb n 16384 ≡ true) × (o ∷ ys ≡ length_octets n ++ os)
        two [] c low high e = absurd (refused e)
        two (p ∷ ys) c low high e =
            needed (leb 128 ((o - 128) * 256 + p)) 5 (give ((o - 128) * 256 + p)) ys e λ most same.
            let z : (o - 128) * 256 + p ≡ n = cc in
            let y : ys ≡ os = cc in
            let least : 128 ≤ n = omega (arith, leb-true 128 ((o - 128) * 256 + p) most) in
            let first : (n + 32768) / 256 ≡ o = omega arith in
            let second : (n + 32768) % 256 / 1 ≡ p = omega arith in
            (lt-ltb n 16384 (omega arith), simp (le-ltb n 128 least, first, second, y))

pub length_exact : Exact (λ (n : ℕ). ltb n 16384) length_octets read_length
length_exact = record { back = length_back; only = length_only }

-- items
module _ (low v : ℕ) where
  id_back : fits_item (an_id low) v ≡ true → (os : List ℕ) → read_item (an_id low) (write_item (an_id low) v ++ os) ≡ got v os
  unfolding read_item
  id_back h os =
      let least : low ≤ v = leb-true low v (both_left (leb low v) (leb v 65535) h) in
      let most : leb v 65535 ≡ true = both_right (leb low v) (leb v 65535) h in
      let value : v - low + low ≡ v = omega arith in
      go_on (λ n. need (leb (n + low) 65535) 5 (give (n + low)))
      ((number_exact 2).back (v - low) (lt-ltb (v - low) (256 ^ 2) (omega (arith, leb-true v 65535 most))) os)
      ∙ simp (value, most)

  id_only : (xs os : List ℕ) → Bytes xs → read_item (an_id low) xs ≡ got v os → (fits_item (an_id low) v ≡ true) × (xs ≡ write_item (an_id low) v ++ os)
  unfolding read_item
  id_only xs os b e =
      followed (number 2 xs) (λ n. need (leb (n + low) 65535) 5 (give (n + low))) e λ n rest read then.
      needed (leb (n + low) 65535) 5 (give (n + low)) rest then λ most same.
      let z : n + low ≡ v = cc in
      let y : rest ≡ os = cc in
      let w : v - low ≡ n = omega arith in
      (both (le-leb low v (omega arith)) (rw z at most), rw (w, ← y) ((number_exact 2).only n xs rest b read).1)

-- the fewest octets: what `size` says
pub size_holds : (v : ℕ) → v < 256 ^ 4 → (v < 256 ^ size v) × (0 < size v) × (size v ≤ 4)
unfolding size
size_holds v h = go (ltb v 256) (ltb v (256 ^ 2)) (ltb v (256 ^ 3)) refl refl refl
  where
    go : (a b c : Bool) → ltb v 256 ≡ a → ltb v (256 ^ 2) ≡ b → ltb v (256 ^ 3) ≡ c → (v < 256 ^ size v) × (0 < size v) × (size v ≤ 4)
    go true b c p q r = simp p (omega (arith, ltb-true v 256 p))
    go false true c p q r = simp (p, q) (omega (arith, ltb-true v (256 ^ 2) q))
    go false false true p q r = simp (p, q, r) (omega (arith, ltb-true v (256 ^ 3) r))
    go false false false p q r = simp (p, q, r) (omega arith)

module _ (v : ℕ) where
  nat_back : fits_item a_number v ≡ true → (os : List ℕ) → read_item a_number (write_item a_number v ++ os) ≡ got v os
  unfolding read_item counted fewest
  nat_back h os =
      let s = size_holds v (ltb-true v (256 ^ 4) h) in
      rw append_assoc
      (go_on counted
      (length_exact.back (size v) (lt-ltb (size v) 16384 (omega arith)) (octets_of (size v) v ++ os))
      ∙ simp (lt-ltb 0 (size v) s.1, le-leb (size v) 4 s.2)
      (go_on (λ n. need (eqb (size n) (size v)) 5 (give n)) ((number_exact (size v)).back v (lt-ltb v (256 ^ size v) s.0) os)
      ∙ simp (eq-eqb (size v) (size v) refl)))

  nat_only : (xs os : List ℕ) → Bytes xs → read_item a_number xs ≡ got v os → (fits_item a_number v ≡ true) × (xs ≡ write_item a_number v ++ os)
  unfolding read_item counted fewest
  nat_only xs os b e =
      followed (read_length xs) counted e λ k rest read then.
      needed (ltb 0 k) 5 (need (leb k 4) 8 (fewest k)) rest then λ least then.
      needed (leb k 4) 8 (fewest k) rest then λ most then.
      followed (number k rest) (λ n. need (eqb (size n) k) 5 (give n)) then λ n end digits then.
      needed (eqb (size n) k) 5 (give n) end then λ few same.
      let l = length_exact.only k xs rest b read in
      let d = (number_exact k).only n rest end (bytes_behind (length_octets k) rest (rw l.1 at b)) digits in
      let z : n ≡ v = cc in
      let y : end ≡ os = cc in
      let w : size n ≡ k = eqb-true (size n) k few in
      rw (← z, ← y) (
        lt-ltb n (256 ^ 4) (le_trans (ltb-true n (256 ^ k) d.0) (pow-le-pow_right (omega arith) (leb-true k 4 most))),
        rw (append_assoc, w) (l.1 ∙ ap (λ r. length_octets k ++ r) d.1),
      )

pub item_exact : (i : Item) → Exact (fits_item i) (write_item i) (read_item i)
unfolding read_item
item_exact an_octet = record { back = λ v h os. refl; only = octet_only }
  where
    octet_only : (v : ℕ) (xs os : List ℕ) → Bytes xs → octet xs ≡ got v os → (ltb v 256 ≡ true) × (xs ≡ v ∷ os)
    octet_only v [] os b e = absurd (refused e)
    octet_only v (x ∷ xs) os b e = let z : x ≡ v = cc in (lt-ltb v 256 (omega arith), cc)
item_exact (an_id low) = record { back = id_back low; only = id_only low }
item_exact a_number = record { back = nat_back; only = nat_only }

-- lists
items_back : (i : Item) (vs : List ℕ) → fits_items i vs ≡ true → (os : List ℕ) → read_items i (length vs) (write_items i vs ++ os) ≡ got vs os
items_back i [] h os = refl
items_back i (v ∷ vs) h os =
    rw append_assoc
    (go_on (λ u. read_items i (length vs) >>= λ us. give (u ∷ us))
    ((item_exact i).back v (both_left (fits_item i v) (fits_items i vs) h) (write_items i vs ++ os))
    ∙ go_on (λ us. give (v ∷ us)) (items_back i vs (both_right (fits_item i v) (fits_items i vs) h) os))

items_only : (i : Item) (n : ℕ) (vs xs os : List ℕ) → Bytes xs → read_items i n xs ≡ got vs os
    → (length vs ≡ n) × (fits_items i vs ≡ true) × (xs ≡ write_items i vs ++ os)
items_only i zero vs xs os b e = let z : [] ≡ vs = cc in rw (← z) (refl, refl, cc)
items_only i (suc n) vs xs os b e =
    followed (read_item i xs) (λ u. read_items i n >>= λ us. give (u ∷ us)) e λ u rest read then.
    followed (read_items i n rest) (λ us. give (u ∷ us)) then λ us end reads same.
    let f = (item_exact i).only u xs rest b read in
    let r = items_only i n us rest end (bytes_behind (write_item i u) rest (rw f.1 at b)) reads in
    let z : u ∷ us ≡ vs = cc in
    let y : end ≡ os = cc in
    rw (← z, ← y) (ap suc r.0, both f.0 r.1, rw append_assoc (f.1 ∙ ap (λ l. write_item i u ++ l) r.2))

-- what follows the fields, where a list's limit is one that a length can say
unfoldable pub sound_tail : Tail → Bool
sound_tail nothing = true
sound_tail (list i limit) = ltb limit 16384

pub tail_exact : (t : Tail) → sound_tail t ≡ true → Exact (fits_tail t) (write_tail t) (read_tail t)
unfolding sound_tail
tail_exact nothing h = record { back = none; only = λ vs xs os b e. let z : [] ≡ vs = cc in rw (← z) (refl, cc) }
  where
    none : (vs : List ℕ) → eqb (length vs) 0 ≡ true → (os : List ℕ) → got [] os ≡ got vs os
    none [] h os = refl
    none (v ∷ vs) h os = absurd (let z = eqb-true (suc (length vs)) 0 h in omega arith)
tail_exact (list i limit) h = record { back = back; only = only }
  where
    back : (vs : List ℕ) → leb (length vs) limit && fits_items i vs ≡ true → (os : List ℕ)
        → read_tail (list i limit) (write_tail (list i limit) vs ++ os) ≡ got vs os
    back vs f os =
        let few : leb (length vs) limit ≡ true = both_left (leb (length vs) limit) (fits_items i vs) f in
        rw append_assoc
        (go_on (λ n. need (leb n limit) 8 (read_items i n))
        (length_exact.back (length vs) (lt-ltb (length vs) 16384 (omega (arith, leb-true (length vs) limit few, ltb-true limit 16384 h))) (write_items i vs ++ os))
        ∙ simp few (items_back i vs (both_right (leb (length vs) limit) (fits_items i vs) f) os))

    only : (vs xs os : List ℕ) → Bytes xs → read_tail (list i limit) xs ≡ got vs os
        → (leb (length vs) limit && fits_items i vs ≡ true) × (xs ≡ write_tail (list i limit) vs ++ os)
    only vs xs os b e =
        followed (read_length xs) (λ n. need (leb n limit) 8 (read_items i n)) e λ n rest read then.
        needed (leb n limit) 8 (read_items i n) rest then λ few reads.
        let l = length_exact.only n xs rest b read in
        let r = items_only i n vs rest os (bytes_behind (length_octets n) rest (rw l.1 at b)) reads in
        (both {s = leb (length vs) limit} (rw r.0 few) r.1, rw (append_assoc, r.0) (l.1 ∙ ap (λ k. length_octets n ++ k) r.2))
