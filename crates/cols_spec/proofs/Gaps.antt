-- The ids that a list has above another, as a mask, and the first that it has not.
use mathlib.Core.Path.{◌≡◌, refl, sym, ap, ap₂, ◌∙◌}
use mathlib.Core.Bool.{Bool, true, false, not, ◌&&◌, ◌||◌, false≢true}
use mathlib.Core.List.{List, [], ◌∷◌, ◌++◌}
use Prim.Native.Nat.{ℕ, zero, suc, ◌+◌, ◌-◌, ◌*◌, ◌/◌, ◌%◌, ◌^◌, ◌≤◌, ◌<◌, min, zero-le, suc-le-suc}
use native.Mathlib.Nat.{add-zero, zero-add, add-suc, suc-add, mod-lt, zero-lt-suc, le_of_suc-le-suc, min-eq_left, min-eq_right}
use native.Mathlib.Omega.{arith}
use lib.Bits.{bit_or, or_lt}
use lib.Count.{count_trailing_zeros, under}
use lib.Dec.{eqb, ltb}
use lib.ListN.{length, get_or, take, drop, length-take}
use lib.Pow.{pow_pos}
use lib.Seq.{take-add, take_all, take-suc, get_or-take, get_or-drop}
use borrow.Author.Tests.{eq-eqb, ne_eqb, eqb-true, eqb-false, ltb-true, ltb-false}
use Rattle.cols_spec.specs.Sets.{any, member, has, those, those_from, only, minus, ids_above, Gap}
use Rattle.cols_spec.specs.Places.{InRow, find, found, unused}
use Rattle.cols_spec.proofs.Digits.{has_zero, has_suc, has_or, has_those, has_only, those_lt, only_lt, is_those, shl_only}
use Rattle.cols_spec.proofs.Marks.{has_none}
use Rattle.cols_spec.proofs.Rows.{in_list, find_gone}
use Rattle.cols_spec.proofs.Members.{member_at, member_where, member_none, member_append}
use Rattle.cols_spec.proofs.Answers.{stands_found, found_somewhere, found_nowhere}
use Rattle.cols_spec.proofs.Turns.{unused_here, unused_later}

-- ---- the mask of a list: of one behind another, of places that are free, of one id

module _ (low : ℕ) where
  pub has_marked : (xs : List ℕ) (k : ℕ) → k < 64 → has (ids_above low xs) k ≡ member (low + 1 + k) xs
  unfolding ids_above
  has_marked xs k l = has_those 64 _ k l

  is_marked : (m : ℕ) (xs : List ℕ) → m < 2 ^ 64 → ((k : ℕ) → k < 64 → has m k ≡ member (low + 1 + k) xs) → m ≡ ids_above low xs
  unfolding ids_above
  is_marked m xs l h = is_those 64 m _ l h

  pub marked_lt : (xs : List ℕ) → ids_above low xs < 2 ^ 64
  unfolding ids_above
  marked_lt xs = those_lt 64 _

  pub marked_append : (xs ys : List ℕ) → bit_or (ids_above low xs) (ids_above low ys) ≡ ids_above low (xs ++ ys)
  marked_append xs ys = is_marked _ (xs ++ ys) (or_lt 64 _ _ (marked_lt xs) (marked_lt ys)) (λ k l.
      has_or (ids_above low xs) (ids_above low ys) k ∙ ap₂ (λ (p q : Bool). p || q) (has_marked xs k l) (has_marked ys k l) ∙ sym (member_append (low + 1 + k) xs ys))

  -- the code's `or`: with the next place, with the next n places; and at the end
  module _ (ids : List ℕ) (i : ℕ) where
    pub marked_one : i < length ids → bit_or (ids_above low (take i ids)) (ids_above low (get_or ids i 0 ∷ [])) ≡ ids_above low (take (suc i) ids)
    marked_one l = marked_append (take i ids) (get_or ids i 0 ∷ []) ∙ ap (ids_above low) (sym (take-suc ids i 0 l))

    pub marked_part : (n : ℕ) → bit_or (ids_above low (take i ids)) (ids_above low (take n (drop i ids))) ≡ ids_above low (take (i + n) ids)
    marked_part n = marked_append (take i ids) (take n (drop i ids)) ∙ ap (ids_above low) (sym (take-add i n ids))

    pub marked_end : length ids ≤ i → ids_above low (take i ids) ≡ ids_above low ids
    marked_end l = ap (ids_above low) (take_all i ids l)

    pub marked_free : (n : ℕ) → InRow ids i n 0 0 → 0 ≡ ids_above low (take n (drop i ids))
    marked_free n row = is_marked 0 _ (pow_pos 64) (λ k l. has_none k ∙ sym (member_none (take n (drop i ids)) (low + 1 + k) (λ j e.
        let b = in_list (take n (drop i ids)) j (omega arith) in
        let s : j < n = omega (arith, length-take n (drop i ids)) in
        omega (arith, row j s, e, get_or-take n (drop i ids) j 0 s, get_or-drop i ids j 0))))

  pub marked_none : 0 ≡ ids_above low []
  unfolding member any
  marked_none = is_marked 0 [] (pow_pos 64) (λ k l. has_none k)

  -- x stands k behind `low`, or comes round
  module _ (x k : ℕ) (room : low + 64 ≤ 65535) (far : low < x → x ≡ k + low + 1) (round : x ≤ low → 65535 - low ≤ k) where
    above : k < 64 → low < x
    above l = go (ltb low x) refl
      where
        go : (b : Bool) → ltb low x ≡ b → low < x
        go true e = ltb-true low x e
        go false e = absurd (omega (arith, round (ltb-false low x e)))

    pub mark_near : k < 64 → (1 * 2 ^ k) % 2 ^ 64 ≡ ids_above low (x ∷ [])
    unfolding member any
    mark_near l = shl_only 64 k l ∙ is_marked (only 64 k) (x ∷ []) (only_lt 64 k) (λ j b. has_only 64 k j b ∙ go j (eqb k j) refl)
      where
        go : (j : ℕ) (b : Bool) → eqb k j ≡ b → eqb k j ≡ (eqb (low + 1 + j) x || false)
        go j true e = e ∙ rw (eq-eqb (low + 1 + j) x (omega (arith, far (above l), eqb-true k j e)))
        go j false e = e ∙ rw (ne_eqb (low + 1 + j) x (λ q. eqb-false k j e (omega (arith, far (above l)))))

    pub mark_far : 64 ≤ k → 0 ≡ ids_above low (x ∷ [])
    unfolding member any
    mark_far l = is_marked 0 (x ∷ []) (pow_pos 64) (λ j b. has_none j ∙ rw (ne_eqb (low + 1 + j) x (λ q. omega (arith, far (omega arith)))))

-- ---- the first number that does not pass

module _ {f : ℕ → Bool} where
  pub gap_same : {g : ℕ → Bool} {n r : ℕ} → ((k : ℕ) → k < n → f k ≡ g k) → Gap f n r → Gap g n r
  gap_same e p = record {
    within = p.within;
    before = λ k l. sym (e k (omega (arith, p.within))) ∙ p.before k l;
    here = λ l. sym (e _ l) ∙ p.here l;
  }

  -- of more numbers
  pub gap_more : (m : ℕ) {n r : ℕ} → Gap f n r → r < n → Gap f (n + m) r
  gap_more m p l = record { within = omega arith; before = p.before; here = λ u. p.here l }

  -- those before h pass, and behind them r is the first that does not
  pub gap_behind : (h : ℕ) {n r : ℕ} → ((k : ℕ) → k < h → f k ≡ true) → Gap (λ k. f (h + k)) n r → Gap f (h + n) (h + r)
  gap_behind h {n} {r} a p = record { within = omega (arith, p.within); before = λ k l. go k l (ltb k h) refl; here = λ l. p.here (omega arith) }
    where
      go : (k : ℕ) → k < h + r → (b : Bool) → ltb k h ≡ b → f k ≡ true
      go k l true e = a k (ltb-true k h e)
      go k l false e =
          let u = ltb-false k h e in
          let s : h + (k - h) ≡ k = omega arith in
          sym (ap f s) ∙ p.before (k - h) (omega arith)

  -- of fewer numbers
  pub gap_cut : (n : ℕ) {m r s : ℕ} → n ≤ m → s ≡ min n r → Gap f m r → Gap f n s
  gap_cut n {m} {r} {s} h e p = go (ltb r n) refl
    where
      go : (b : Bool) → ltb r n ≡ b → Gap f n s
      go true q =
          let l = ltb-true r n q in
          let z : s ≡ r = e ∙ min-eq_right (omega arith) in
          rw z (record { within = omega arith; before = p.before; here = λ u. p.here (omega arith) })
      go false q =
          let l = ltb-false r n q in
          let z : s ≡ n = e ∙ min-eq_left l in
          rw z (record { within = omega arith; before = λ k u. p.before k (omega arith); here = λ u. absurd (omega arith) })

-- the zeros below the lowest digit that is 1
trailing_gap : (w m : ℕ) → Gap (λ k. not (has m k)) w (count_trailing_zeros w m)
unfolding count_trailing_zeros
trailing_gap zero m = record { within = zero-le; before = λ k l. absurd (omega arith); here = λ l. absurd (omega arith) }
trailing_gap (suc w) m = go (m % 2) refl (mod-lt m (zero-lt-suc 1)) (trailing_gap w (m / 2))
  where
    low_digit : (d : ℕ) → m % 2 ≡ d → has m 0 ≡ eqb d 1
    low_digit d e = has_zero m ∙ ap (λ (x : ℕ). eqb x 1) e

    go : (d : ℕ) → m % 2 ≡ d → d < 2 → Gap (λ k. not (has (m / 2) k)) w (count_trailing_zeros w (m / 2)) → Gap (λ k. not (has m k)) (suc w) (under d (count_trailing_zeros w (m / 2)))
    go zero e l p = record {
      within = suc-le-suc p.within;
      before = λ k. at k;
      here = λ u. ap not (has_suc m _) ∙ p.here (le_of_suc-le-suc u);
    }
      where
        at : (k : ℕ) → k < suc (count_trailing_zeros w (m / 2)) → not (has m k) ≡ true
        at zero u = ap not (low_digit 0 e)
        at (suc k) u = ap not (has_suc m k) ∙ p.before k (le_of_suc-le-suc u)
    go (suc zero) e l p = record { within = zero-le; before = λ k u. absurd (omega arith); here = λ u. ap not (low_digit 1 e) }
    go (suc (suc d)) e l p = absurd (omega arith)

-- the mask of all 64
all_those : 18446744073709551615 ≡ those 64 (λ j. true)
unfolding those those_from
all_those = refl

has_all : (k : ℕ) → k < 64 → has 18446744073709551615 k ≡ true
has_all k l = ap (λ (m : ℕ). has m k) all_those ∙ has_those 64 (λ j. true) k l

pub gap_of : (m n : ℕ) → n ≡ minus 64 18446744073709551615 m → Gap (has m) 64 (count_trailing_zeros 64 n)
unfolding minus
gap_of m n e = gap_same (λ k l. ap not (ap (λ (x : ℕ). has x k) e ∙ has_those 64 _ k l ∙ ap (λ (b : Bool). b && not (has m k)) (has_all k l)) ∙ go (has m k)) (trailing_gap 64 n)
  where
    go : (b : Bool) → not (not b) ≡ b
    go true = refl
    go false = refl

-- ---- the first id that is not there

module _ (ids : List ℕ) (low : ℕ) where
  -- of the 64 above `low`, by their mask; of 128, by two masks
  pub gap_marked : {m r : ℕ} → m ≡ ids_above low ids → Gap (has m) 64 r → Gap (λ k. member (low + 1 + k) ids) 64 r
  gap_marked e p = gap_same (λ k l. ap (λ (x : ℕ). has x k) e ∙ has_marked low ids k l) p

  pub gap_next : {a b : ℕ} → 64 ≤ a → Gap (λ k. member (low + 1 + k) ids) 64 a → Gap (λ k. member (low + 64 + 1 + k) ids) 64 b
      → Gap (λ k. member (low + 1 + k) ids) 128 (64 + b)
  gap_next h p q = gap_behind 64 (λ k l. p.before k (omega arith)) (gap_same (λ k l. ap (λ (x : ℕ). member x ids) (omega arith)) q)

pub unused_gap : (n : ℕ) (ids : List ℕ) (x g : ℕ) → Gap (λ k. found (find ids (x + k))) n g → x + g ≡ unused n ids x
unfolding unused
unused_gap zero ids x g p = omega (arith, p.within)
unused_gap (suc n) ids x zero p =
    add-zero x ∙ sym (unused_here n ids x (found_nowhere (find ids x) (rw (add-zero x) at (p.here (omega arith)))))
unused_gap (suc n) ids x (suc g) p =
    let there = found_somewhere (find ids x) (rw (add-zero x) at (p.before 0 (omega arith))) in
    let q : Gap (λ k. found (find ids (suc x + k))) n g = record {
      within = le_of_suc-le-suc p.within;
      before = λ k l. rw (suc-add x k, ← (add-suc x k)) (p.before (suc k) (suc-le-suc l));
      here = λ l. rw (suc-add x g, ← (add-suc x g)) (p.here (suc-le-suc l));
    } in
    add-suc x g ∙ sym (suc-add x g) ∙ unused_gap n ids (suc x) g q ∙ sym (unused_later n ids x there.0 there.1)

-- Behind h places that hold the ids from low + 1 on, an id above those is there where one of the places left holds it.
module _ (ids : List ℕ) (low h : ℕ) (row : InRow ids 0 h (low + 1) 1) where
  row_found : (k : ℕ) → k < h → found (find ids (low + 1 + k)) ≡ true
  row_found k l = stands_found ids (low + 1 + k) k (omega arith) (omega (arith, rw (zero-add k) at (row k l)))

  rest_found : (k : ℕ) → member (low + h + 1 + k) (drop h ids) ≡ found (find ids (low + 1 + (h + k)))
  unfolding found
  rest_found k = go (member (low + h + 1 + k) (drop h ids)) refl
    where
      away : member (low + h + 1 + k) (drop h ids) ≡ false → (i : ℕ) → get_or ids i 0 ≡ low + 1 + (h + k) → (b : Bool) → ltb i h ≡ b → ⊥
      away m i g true q = let l = ltb-true i h q in omega (arith, rw (zero-add i) at (row i l))
      away m i g false q =
          let l = ltb-false i h q in
          let s : h + (i - h) ≡ i = omega arith in
          let there : get_or (drop h ids) (i - h) 0 ≡ low + h + 1 + k = get_or-drop h ids (i - h) 0 ∙ ap (λ (j : ℕ). get_or ids j 0) s ∙ g ∙ omega arith in
          false≢true (sym m ∙ rw there at (member_at (drop h ids) (i - h) (in_list (drop h ids) (i - h) (omega arith))))

      go : (b : Bool) → member (low + h + 1 + k) (drop h ids) ≡ b → member (low + h + 1 + k) (drop h ids) ≡ found (find ids (low + 1 + (h + k)))
      go true m =
          let r = member_where (drop h ids) (low + h + 1 + k) m in
          m ∙ sym (stands_found ids (low + 1 + (h + k)) (h + r.0) (omega arith) (omega (arith, r.1, get_or-drop h ids r.0 0)))
      go false m = m ∙ sym (ap found (find_gone ids (low + 1 + (h + k)) (λ z i g. away m i g (ltb i h) refl)))

  pub gap_found : {n r : ℕ} → Gap (λ k. member (low + h + 1 + k) (drop h ids)) n r → Gap (λ k. found (find ids (low + 1 + k))) (h + n) (h + r)
  gap_found p = gap_behind h row_found (gap_same (λ k l. rest_found k) p)
