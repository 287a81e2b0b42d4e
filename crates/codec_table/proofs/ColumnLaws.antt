-- The tables of Columns are that of Messages, by one test that antt computes over the 43 numbers; and what follows for every number. Assumes
-- nothing.
use mathlib.Core.Path.{◌≡◌, refl, sym, ap, ◌∙◌}
use mathlib.Core.Bool.{Bool, true, false, cond, ◌&&◌, not}
use mathlib.Core.List.{List, [], ◌∷◌, ◌++◌, map}
use Prim.Native.Nat.{ℕ, zero, suc, ◌+◌, ◌%◌, ◌<◌, ◌≤◌}
use native.Mathlib.Nat.{add-zero, add-suc, suc-add, zero-add}
use native.Mathlib.Omega.{arith}
use lib.ListN.{length, get_or, take, length-map, get_or-map, get_or-eq_default}
use lib.Seq.{get_or-take, length-take-le}
use lib.Dec.{leb, ltb, eqb}
use borrow.Author.Tests.{eq-eqb, leb-true, ltb-true, ltb-false}
use Rattle.codec_octets.specs.Octets.{a_number, nothing}
use Rattle.codec_octets.proofs.OctetLaws.{both_left, both_right}
use Rattle.codec_table.specs.Messages.{item, result, diagnostic, reason, status, channel, user, token, height, Row, unknown, Way, down, table, entry, row, may_go_up, is_served, is_covered}
use Rattle.codec_table.specs.Columns.{ways, way_at, packed, packed_at, digit, form_at, tail_at, count_at, kinds_at, kind_at, kind_in, way_of, field_of, tail_of, fields_of, last_field, row_from}

-- a test over the numbers from 0 on
range : ℕ → ℕ → List ℕ
range i zero = []
range i (suc k) = i ∷ range (suc i) k

from : {A : Type 0} (f g : ℕ → A) (i k : ℕ) → map f (range i k) ≡ map g (range i k) → (n : ℕ) → n < k → f (i + n) ≡ g (i + n)
unfolding range
from f g i zero e n h = absurd (omega arith)
from f g i (suc k) e zero h = rw add-zero (cc)
from f g i (suc k) e (suc n) h = let t : map f (range (suc i) k) ≡ map g (range (suc i) k) = cc in rw (add-suc, ← suc-add) (from f g (suc i) k t n (omega arith))

each : {A : Type 0} (f g : ℕ → A) (k : ℕ) → map f (range 0 k) ≡ map g (range 0 k) → (n : ℕ) → n < k → f n ≡ g n
each f g k e n h = rw zero-add at (from f g 0 k e n h)

-- what Messages says of a number, and what its digits say; at most four fields, and nothing behind an OPTIONAL one
Said : Type 0
Said = (Way × Row) × (Bool × Bool × Bool) × Bool

said : ℕ → Said
unfolding Said
said n = (entry n, (may_go_up n, is_served n, is_covered n), true)

kept : ℕ → Said
unfolding Said
kept n = (
  (way_of (way_at n % 4), row_from n),
  (not (eqb (way_at n % 4) 0), eqb (way_at n % 4) 2, leb 4 (way_at n)),
  leb (count_at n + cond (eqb (form_at n) 1) 1 0) 4 && cond (eqb (form_at n) 1) (eqb (tail_at n) 0) true,
)

-- the test
all : (n : ℕ) → said n ≡ kept n
unfolding range Said said kept entry row may_go_up is_served is_covered row_from last_field fields_of field_of tail_of way_of way_at ways form_at tail_at count_at kinds_at kind_at packed_at packed
all n = go (ltb n 43) refl
  where
    go : (t : Bool) → ltb n 43 ≡ t → said n ≡ kept n
    go true e = each said kept 43 refl n (ltb-true n 43 e)
    go false e =
        let h = ltb-false n 43 e in
        rw (get_or-eq_default table (down, unknown) {n = n} h, get_or-eq_default ways 0 {n = n} h, get_or-eq_default packed 0x7777003 {n = n} h)

pub row_from_lem : (n : ℕ) → row n ≡ row_from n
unfolding Said said kept row
row_from_lem n = ap (λ (p : Said). p.0.1) (all n)

up_from : (n : ℕ) → may_go_up n ≡ not (eqb (way_at n % 4) 0)
unfolding Said said kept
up_from n = ap (λ (p : Said). p.1.0) (all n)

served_from : (n : ℕ) → is_served n ≡ eqb (way_at n % 4) 2
unfolding Said said kept
served_from n = ap (λ (p : Said). p.1.1) (all n)

covered_from : (n : ℕ) → is_covered n ≡ leb 4 (way_at n)
unfolding Said said kept
covered_from n = ap (λ (p : Said). p.1.2) (all n)

is_sound : (n : ℕ) → leb (count_at n + cond (eqb (form_at n) 1) 1 0) 4 && cond (eqb (form_at n) 1) (eqb (tail_at n) 0) true ≡ true
unfolding Said said kept
is_sound n = sym (ap (λ (p : Said). p.2) (all n))

-- only a message has a form below 3
pub known : (n : ℕ) → form_at n < 3 → n < 43
unfolding form_at packed_at packed
known n h = go (ltb n 43) refl
  where
    go : (t : Bool) → ltb n 43 ≡ t → n < 43
    go true e = ltb-true n 43 e
    go false e = absurd (let l = rw (get_or-eq_default packed 0x7777003 {n = n} (ltb-false n 43 e)) at h in omega arith)

few : (n : ℕ) → count_at n + cond (eqb (form_at n) 1) 1 0 ≤ 4
few n = leb-true _ _ (both_left (leb (count_at n + cond (eqb (form_at n) 1) 1 0) 4) (cond (eqb (form_at n) 1) (eqb (tail_at n) 0) true) (is_sound n))

pub count_few : (n : ℕ) → count_at n ≤ 4
count_few n = omega (arith, few n)

pub count_one_more : (n : ℕ) → form_at n ≡ 1 → count_at n + 1 ≤ 4
count_one_more n e = rw (eq-eqb (form_at n) 1 e) at (few n)

pub no_tail : (n : ℕ) → form_at n ≡ 1 → tail_of (tail_at n) ≡ nothing
unfolding tail_of
no_tail n e =
    let h = both_right (leb (count_at n + cond (eqb (form_at n) 1) 1 0) 4) (cond (eqb (form_at n) 1) (eqb (tail_at n) 0) true) (is_sound n) in
    rw (rw (eq-eqb (form_at n) 1 e) at h)

-- the fields of a message
pub kind_rest : (k : ℕ) → 7 ≤ k → field_of k ≡ item a_number
unfolding field_of
kind_rest k h = get_or-eq_default (result ∷ diagnostic ∷ reason ∷ status ∷ channel ∷ user ∷ token ∷ []) height h

-- what is none of the first k numbers, as a `match` leaves it, is k or more
abbrev pub NoneOf : ℕ → ℕ → Type 0
NoneOf zero n = Unit {0}
NoneOf (suc k) n = NoneOf k n × (n ≡ k → ⊥)

pub none_of : (k : ℕ) {n : ℕ} → NoneOf k n → k ≤ n
none_of zero r = omega arith
none_of (suc k) {n} r = let h = none_of k r.0 in let u = r.1 in omega arith

pub length_fields : (n count : ℕ) → count ≤ 4 → length (fields_of n count) ≡ count
unfolding fields_of kinds_at
length_fields n count c = length-map (take count (kinds_at n)) field_of ∙ length-take-le count (kinds_at n) c

pub field_at : (n count i : ℕ) → i < count → get_or (fields_of n count) i (field_of 7) ≡ field_of (kind_at n i)
unfolding fields_of kind_at
field_at n count i h = get_or-map field_of (take count (kinds_at n)) i 7 ∙ ap field_of (get_or-take count (kinds_at n) i 7 h)

pub one_more : (n : ℕ) → form_at n ≡ 1 → fields_of n (count_at n + 1) ≡ fields_of n (count_at n) ++ last_field n ∷ []
unfolding fields_of last_field kind_at kinds_at
one_more n e = go (count_at n) (count_one_more n e)
  where
    go : (c : ℕ) → c + 1 ≤ 4 → map field_of (take (c + 1) (kinds_at n)) ≡ map field_of (take c (kinds_at n)) ++ field_of (get_or (kinds_at n) c 7) ∷ []
    go zero h = refl
    go (suc zero) h = refl
    go (suc (suc zero)) h = refl
    go (suc (suc (suc zero))) h = refl
    go (suc (suc (suc (suc c)))) h = absurd (omega arith)

-- what a way says is said of its number
module _ (n x : ℕ) (e : x ≡ way_at n) where
  pub up_at : not (eqb (x % 4) 0) ≡ may_go_up n
  up_at = rw e (sym (up_from n))

  pub served_at : eqb (x % 4) 2 ≡ is_served n
  served_at = rw e (sym (served_from n))

  pub covered_at : leb 4 x ≡ is_covered n
  covered_at = rw e (sym (covered_from n))

-- the columns of a line are those of its number
module _ (n x : ℕ) (e : x ≡ packed_at n) where
  pub form_at_lem : digit 0 x ≡ form_at n
  unfolding form_at
  form_at_lem = ap (digit 0) e

  pub tail_at_lem : digit 1 x ≡ tail_at n
  unfolding tail_at
  tail_at_lem = ap (digit 1) e

  pub count_at_lem : digit 2 x ≡ count_at n
  unfolding count_at
  count_at_lem = ap (digit 2) e

  pub kind_at_lem : (i : ℕ) → kind_in x i ≡ kind_at n i
  unfolding kind_in kind_at kinds_at
  kind_at_lem i = ap (λ (y : ℕ). kind_in y i) e

-- in the table, whatever stands behind its end
pub within_table : (xs : List ℕ) (n d e : ℕ) → n < length xs → get_or xs n d ≡ get_or xs n e
within_table [] n d e h = absurd (omega arith)
within_table (x ∷ xs) zero d e h = refl
within_table (x ∷ xs) (suc n) d e h = within_table xs n d e (omega arith)

pub kind_none : (x i : ℕ) → 4 ≤ i → 7 ≡ kind_in x i
unfolding kind_in
kind_none x i h = sym (get_or-eq_default (digit 3 x ∷ digit 4 x ∷ digit 5 x ∷ digit 6 x ∷ []) 7 h)
