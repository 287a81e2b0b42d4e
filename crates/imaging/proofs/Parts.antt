-- Written and read part by part: one law for a part that goes before the others, and one for a count with that many rows. Assumes nothing.
use mathlib.Core.Path.{◌≡◌, refl, sym, ap, ap₂, ◌∙◌}
use mathlib.Core.List.{List, [], ◌∷◌, ◌++◌, append_assoc}
use Prim.Native.Nat.{ℕ, zero, suc, ◌<◌, ◌^◌}
use lib.ListN.{length}
use borrow.Author.Tests.{lt-ltb}
use Rattle.codec_octets.specs.Octets.{got, Reader, follow, ◌>>=◌, give, octet, octets_of, number, Bytes}
use Rattle.codec_octets.proofs.OctetLaws.{bytes_behind, refused, followed, go_on, number_exact}
use Rattle.cols_spec.specs.Sets.{each}
use Rattle.imaging.specs.Image.{rows}
use Rattle.imaging.specs.Reading.{read_many, read_rows}

-- what is written is read back, where it fits; and whatever is read was written so
pub record Code {A : Type 0} (Fits : A → Type 0) (write : A → List ℕ) (read : Reader A) : Type 0 where
  pub back : (a : A) → Fits a → (os : List ℕ) → read (write a ++ os) ≡ got a os
  pub only : (a : A) (xs os : List ℕ) → Bytes xs → read xs ≡ got a os → xs ≡ write a ++ os

-- the rest of a value v, where its parts `of v` are known
pub record Rest {T P : Type 0} (of : T → P) (Fits : T → Type 0) (write : T → List ℕ) (read : P → Reader T) : Type 0 where
  pub back : (v : T) → Fits v → (os : List ℕ) → read (of v) (write v ++ os) ≡ got v os
  pub only : (p : P) (v : T) (xs os : List ℕ) → Bytes xs → read p xs ≡ got v os → (of v ≡ p) × (xs ≡ write v ++ os)

-- the last part, of which a key may be known already
module _ {T P A K : Type 0} (of : T → P) (part : T → A) (build : P → A → T) (known : P → K) {key : A → K} {FitsA : A → Type 0} {Fits : T → Type 0} {wa : A → List ℕ} {ra : K → Reader A} where
  pub rest_last : Rest key FitsA wa ra → ((v : T) → Fits v → FitsA (part v))
      → ((v : T) → (known (of v) ≡ key (part v)) × (build (of v) (part v) ≡ v)) → ((p : P) (a : A) → key a ≡ known p → (of (build p a) ≡ p) × (part (build p a) ≡ a))
      → Rest of Fits (λ v. wa (part v)) (λ p. ra (known p) >>= λ a. give (build p a))
  rest_last c fits f g = record {
    back = λ v h os. rw (f v).0 (go_on (λ a. give (build (of v) a)) (c.back (part v) (fits v h) os) ∙ ap (λ (x : T). got x os) (f v).1);
    only = λ p v xs os b e. followed (ra (known p) xs) (λ a. give (build p a)) e λ a ys r s.
        let x = c.only (known p) a xs ys b r in
        let y = g p a x.0 in
        let z : build p a ≡ v = cc in
        let w : ys ≡ os = cc in
        (ap of (sym z) ∙ y.0, x.1 ∙ ap₂ (λ (n : A) (l : List ℕ). wa n ++ l) (sym y.1 ∙ ap part z) w);
  }

-- a part of which nothing is known
module _ {A : Type 0} {Fits : A → Type 0} {write : A → List ℕ} {read : Reader A} where
  pub unknown : Code Fits write read → Rest {P = Unit {0}} (λ a. tt) Fits write (λ p. read)
  unknown c = record { back = c.back; only = λ p v xs os b e. (refl, c.only v xs os b e) }

-- one part more
module _ {T P A : Type 0} (of : T → P) (part : T → A) {FitsA : A → Type 0} {Fits : T → Type 0} {wa : A → List ℕ} {ra : Reader A} {write : T → List ℕ} (read : P → A → Reader T) where
  pub rest_part : Code FitsA wa ra → ((v : T) → Fits v → FitsA (part v)) → Rest {P = P × A} (λ v. (of v, part v)) Fits write (λ p. read p.0 p.1)
      → Rest of Fits (λ v. wa (part v) ++ write v) (λ p. ra >>= read p)
  rest_part c fits r = record { back = back; only = only }
    where
      back : (v : T) → Fits v → (os : List ℕ) → follow (ra ((wa (part v) ++ write v) ++ os)) (read (of v)) ≡ got v os
      back v h os = rw append_assoc (go_on (read (of v)) (c.back (part v) (fits v h) (write v ++ os)) ∙ r.back v h os)

      only : (p : P) (v : T) (xs os : List ℕ) → Bytes xs → follow (ra xs) (read p) ≡ got v os → (of v ≡ p) × (xs ≡ (wa (part v) ++ write v) ++ os)
      only p v xs os b e = followed (ra xs) (read p) e λ a ys f g.
          let x = c.only a xs ys b f in
          let y = r.only (p, a) v ys os (bytes_behind (wa a) ys (rw x at b)) g in
          (ap (λ (z : P × A). z.0) y.0, rw append_assoc (x ∙ ap₂ (λ (z : A) (l : List ℕ). wa z ++ l) (sym (ap (λ (z : P × A). z.1) y.0)) y.1))

-- a value of which nothing is known yet
module _ {T : Type 0} {Fits : T → Type 0} {write : T → List ℕ} {read : Reader T} where
  pub whole : Rest {P = Unit {0}} (λ v. tt) Fits write (λ p. read) → Code Fits write read
  whole r = record { back = r.back; only = λ v xs os b e. (r.only tt v xs os b e).1 }

-- ---- what is made of one part, or of two

module _ {A T : Type 0} {FitsA : A → Type 0} {wa : A → List ℕ} {ra : Reader A} (c : Code FitsA wa ra) (f : A → T) where
  pub one_back : (a : A) → FitsA a → (os : List ℕ) → follow (ra (wa a ++ os)) (λ a. give (f a)) ≡ got (f a) os
  one_back a h os = go_on (λ a. give (f a)) (c.back a h os)

  pub one_only : (v : T) (xs os : List ℕ) → Bytes xs → follow (ra xs) (λ a. give (f a)) ≡ got v os → (a : A) × (f a ≡ v) × (xs ≡ wa a ++ os)
  one_only v xs os b e = followed (ra xs) (λ a. give (f a)) e λ a ys r s. let w : ys ≡ os = cc in (a, cc, rw (← w) (c.only a xs ys b r))

module _ {A B T : Type 0} {FitsA : A → Type 0} {wa : A → List ℕ} {ra : Reader A} {FitsB : B → Type 0} {wb : B → List ℕ} {rb : Reader B} (c : Code FitsA wa ra) (d : Code FitsB wb rb)
    (f : A → B → T) where
  pub two_back : (a : A) (b : B) → FitsA a → FitsB b → (os : List ℕ) → follow (ra ((wa a ++ wb b) ++ os)) (λ a. rb >>= λ b. give (f a b)) ≡ got (f a b) os
  two_back a b h k os = rw append_assoc (go_on (λ a. rb >>= λ b. give (f a b)) (c.back a h (wb b ++ os)) ∙ one_back d (f a) b k os)

  pub two_only : (v : T) (xs os : List ℕ) → Bytes xs → follow (ra xs) (λ a. rb >>= λ b. give (f a b)) ≡ got v os → (a : A) × (b : B) × (f a b ≡ v) × (xs ≡ (wa a ++ wb b) ++ os)
  two_only v xs os b e = followed (ra xs) (λ a. rb >>= λ b. give (f a b)) e λ a ys r s.
      let x = c.only a xs ys b r in
      let y = one_only d (f a) v ys os (bytes_behind (wa a) ys (rw x at b)) s in
      (a, y.0, y.1, rw append_assoc (x ∙ ap (λ (l : List ℕ). wa a ++ l) y.2))

-- ---- numbers

pub number_code : (k : ℕ) → Code (λ v. v < 256 ^ k) (octets_of k) (number k)
number_code k = record {
  back = λ v h os. (number_exact k).back v (lt-ltb v (256 ^ k) h) os;
  only = λ v xs os b e. ((number_exact k).only v xs os b e).1;
}

pub octet_code : Code {A = ℕ} (λ v. Unit {0}) (λ n. n ∷ []) octet
octet_code = record { back = λ v h os. refl; only = only }
  where
    only : (v : ℕ) (xs os : List ℕ) → Bytes xs → octet xs ≡ got v os → xs ≡ v ∷ os
    only v [] os b e = absurd (refused e)
    only v (x ∷ xs) os b e = cc

-- ---- a count, then that many rows

abbrev pub All : {A : Type 0} → (A → Type 0) → List A → Type 0
All P [] = Unit {0}
All P (x ∷ xs) = P x × All P xs

-- what each element is, it is again
pub all_of : {A : Type 0} {P Q : A → Type 0} → ((a : A) → P a → Q a) → (xs : List A) → All P xs → All Q xs
all_of f [] h = tt
all_of f (x ∷ xs) h = (f x h.0, all_of f xs h.1)

-- where every element is so
pub any_of : {A : Type 0} {Q : A → Type 0} → ((a : A) → Q a) → (xs : List A) → All Q xs
any_of f [] = tt
any_of f (x ∷ xs) = (f x, any_of f xs)

module _ {A : Type 0} {Fits : A → Type 0} {row : A → List ℕ} {read : Reader A} (c : Code Fits row read) where
  many_back : (ps : List A) → All Fits ps → (os : List ℕ) → read_many (length ps) read (each row ps ++ os) ≡ got ps os
  unfolding read_many each
  many_back [] h os = refl
  many_back (a ∷ ps) h os =
      rw append_assoc
      (go_on (λ u. read_many (length ps) read >>= λ us. give (u ∷ us)) (c.back a h.0 (each row ps ++ os)) ∙ go_on (λ us. give (a ∷ us)) (many_back ps h.1 os))

  many_only : (n : ℕ) (ps : List A) (xs os : List ℕ) → Bytes xs → read_many n read xs ≡ got ps os → (length ps ≡ n) × (xs ≡ each row ps ++ os)
  unfolding read_many each
  many_only zero ps xs os b e = let z : [] ≡ ps = cc in rw (← z) (refl, cc)
  many_only (suc n) ps xs os b e =
      followed (read xs) (λ u. read_many n read >>= λ us. give (u ∷ us)) e λ u ys f g.
      followed (read_many n read ys) (λ us. give (u ∷ us)) g λ us end reads same.
      let x = c.only u xs ys b f in
      let r = many_only n us ys end (bytes_behind (row u) ys (rw x at b)) reads in
      let z : u ∷ us ≡ ps = cc in
      let y : end ≡ os = cc in
      rw (← z, ← y) (ap suc r.0, rw append_assoc (x ∙ ap (λ (l : List ℕ). row u ++ l) r.1))

  -- the law of all lists of an image
  pub rows_code : Code (All Fits) (rows row) (read_rows read)
  unfolding rows read_rows
  rows_code = record {
    back = λ ps h os. many_back ps h os;
    only = λ ps xs os b e. followed (octet xs) (λ n. read_many n read) e λ n ys f g.
        let x = octet_code.only n xs ys b f in
        let r = many_only n ps ys os (bytes_behind (n ∷ []) ys (rw x at b)) g in
        x ∙ ap₂ (λ (m : ℕ) (l : List ℕ). m ∷ l) (sym r.0) r.1;
  }
