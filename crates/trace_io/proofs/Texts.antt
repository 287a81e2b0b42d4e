-- Octets laid into a text one behind the other. Assumes nothing.
use Prim.Native.Nat.{ℕ, zero, suc, ◌+◌, ◌-◌, ◌*◌, ◌/◌, ◌%◌, ◌^◌, ◌<◌, ◌≤◌}
use mathlib.Core.Path.{◌≡◌, refl, sym, ap, ◌∙◌}
use mathlib.Core.Bool.{Bool, true, false}
use mathlib.Core.List.{List, [], ◌∷◌, ◌++◌, append_assoc}
use native.Mathlib.Nat.{add-suc, pow-succ', pow-le-pow_right}
use native.Mathlib.Numerals.{add-one}
use native.Mathlib.Omega.{arith}
use borrow.Author.Tests.{leb-true, leb-false, le-leb, lt-leb, le-ltb, lt-ltb}
use lib.Dec.{leb, lit<}
use lib.ListN.{length, take, drop, get_or, set, length-append, drop_of_length-le}
use lib.Seq.{sets, sets-eq, length-sets, drop-cons, take_at, length-take-le, take-suc-set}
use Rattle.io.specs.Digits.{hex_digit_ascii, last_digits, IsDigitCount}
use Rattle.trace_io.specs.Lines.{digits_in, field, collected, Adds}

-- one octet more is laid
pub sets_on : (s : List ℕ) (at i : ℕ) (os : List ℕ) → i < length os
    → sets (set s (at + i) (get_or os i 0)) (at + (i + 1)) (drop (i + 1) os) ≡ sets s (at + i) (drop i os)
sets_on s at i os h = rw (drop-cons os i 0 h, add-one, add-suc) refl

pub sets_done : (s : List ℕ) (at i : ℕ) (os : List ℕ) → length os ≤ i → sets s at (drop i os) ≡ s
sets_done s at i os h = rw (drop_of_length-le os h) refl

pub laid_front : (s : List ℕ) (at : ℕ) (os : List ℕ) → at + length os ≤ length s → take (at + length os) (sets s at os) ≡ take at s ++ os
laid_front s at os h =
    rw (sets-eq os s at h)
    (take_at (take at s ++ os) (drop (at + length os) s) (at + length os)
    (length-append (take at s) os ∙ omega (arith, length-take-le at s (omega arith))))

-- what a buffer holds behind a text that was collected
pub collected_behind : (out : List ℕ) (filled : ℕ) (text t : List ℕ) → filled + length text ≤ length out → t ≡ sets out filled text
    → (t, filled + length text) ≡ collected out filled text
collected_behind out filled text t h e = rw e (sym (simp (le-leb (filled + length text) (length out) h)))

pub collected_alone : (out : List ℕ) (filled : ℕ) (text t : List ℕ) → length out < filled + length text → length text ≤ length out → t ≡ sets out 0 text
    → (t, length text) ≡ collected out filled text
collected_alone out filled text t h l e =
    rw e (sym (simp (lt-leb (filled + length text) (length out) h, le-leb (length text) (length out) l)))

pub collected_none : (out : List ℕ) (filled : ℕ) (text : List ℕ) → length out < filled + length text → length out < length text
    → (out, 0) ≡ collected out filled text
collected_none out filled text h l =
    sym (simp (lt-leb (filled + length text) (length out) h, lt-leb (length text) (length out) l))

-- the digits that the kit's `decimal` writes are the number's
glyph_is : (n : ℕ) → hex_digit_ascii (n % 10) ≡ 48 + n % 10
glyph_is n = rw (lt-ltb (n % 10) 10 (omega arith)) refl

ten_le : (j : ℕ) → 1 ≤ 10 ^ j
ten_le j = pow-le-pow_right (lit< tt) {i = 0} {j = j} (omega arith)

pub digits_are : (f k n : ℕ) → k ≤ f → IsDigitCount 10 1 n k → last_digits 10 k n ≡ digits_in f n
unfolding digits_in
digits_are f zero n h w = absurd (omega (arith, w.0))
digits_are zero (suc k) n h w = absurd (omega arith)
digits_are (suc f) (suc zero) n h w =
    let e : n % 10 ≡ n = omega (arith, w.1) in
    rw (lt-ltb n 10 w.1, glyph_is n, e) refl
digits_are (suc f) (suc (suc j)) n h w =
    let a : suc (suc j) - 1 ≡ suc j = omega arith in
    let b : suc j - 1 ≡ j = omega arith in
    let x : 10 ^ suc j ≤ n = rw a at (w.2 (omega arith)) in
    let y : 10 ^ suc j ≡ 10 * 10 ^ j = pow-succ' 10 j in
    let z : 10 ^ suc (suc j) ≡ 10 * 10 ^ suc j = pow-succ' 10 (suc j) in
    let q : IsDigitCount 10 1 (n / 10) (suc j) = (omega arith, omega (arith, w.1), λ l. rw b (omega (arith, x, y))) in
    rw (le-ltb n 10 (omega (arith, x, y, ten_le j)), glyph_is n, digits_are f (suc j) (n / 10) (omega arith) q) refl

-- a number below 2 ^ 64 has at most 20 digits
pub few : (n k : ℕ) → n < 2 ^ 64 → IsDigitCount 10 1 n k → k ≤ 20
few n k h w = go (leb k 20) refl
  where
    go : (t : Bool) → leb k 20 ≡ t → k ≤ 20
    go true e = leb-true k 20 e
    go false e =
        let l : 20 < k = leb-false k 20 e in
        let p : 10 ^ 20 ≤ 10 ^ (k - 1) = pow-le-pow_right (lit< tt) {i = 20} {j = k - 1} (omega arith) in
        absurd (omega (arith, p, w.2 (omega arith)))

-- a number and the mark behind it
pub field_put : (s : List ℕ) (at n mark k : ℕ) (ds t : List ℕ) → at + 21 ≤ length s → n < 2 ^ 64 → IsDigitCount 10 1 n k → take k ds ≡ last_digits 10 k n → k ≡ length (take k ds)
    → t ≡ sets s at (take k ds) → Adds s at (field n mark) (set t (at + k) mark) (at + k + 1)
unfolding field
field_put s at n mark k ds t room low w same size e =
    let os = take k ds in
    let most : k ≤ 20 = few n k low w in
    let here : length t ≡ length s = ap length e ∙ length-sets s at os in
    let front : take (at + k) t ≡ take at s ++ os =
    rw e (ap (λ j. take (at + j) (sets s at os)) size ∙ laid_front s at os (omega arith)) in
    record {
      laid =
          ap (λ j. take j (set t (at + k) mark)) (add-one (at + k))
          ∙ take-suc-set t (at + k) mark (omega arith)
          ∙ ap (λ l. l ++ (mark ∷ [])) front
          ∙ append_assoc (take at s) os (mark ∷ [])
          ∙ ap (λ l. take at s ++ (l ++ (mark ∷ []))) (same ∙ digits_are 20 k n most w);
      most = omega arith;
    }

-- one field more behind those that are there
pub adds_on : {s : List ℕ} {at : ℕ} {os t : List ℕ} {n : ℕ} {all : List ℕ} → take at s ≡ all → Adds s at os t n → take n t ≡ all ++ os
adds_on {os = os} e a = a.laid ∙ ap (λ l. l ++ os) e

-- the test that cannot wrap is the sum's
pub behind : (filled size room : ℕ) → size ≤ room → leb filled (room - size) ≡ leb (filled + size) room
behind filled size room h = go (leb (filled + size) room) refl
  where
    go : (t : Bool) → leb (filled + size) room ≡ t → leb filled (room - size) ≡ leb (filled + size) room
    go true e = let l = leb-true (filled + size) room e in le-leb filled (room - size) (omega arith) ∙ sym e
    go false e = let l = leb-false (filled + size) room e in lt-leb filled (room - size) (omega arith) ∙ sym e
