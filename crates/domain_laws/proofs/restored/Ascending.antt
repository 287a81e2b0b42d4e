-- Ascending lists of ids are equal where they have the same members; and rows whose ids ascend are what their ids pick. Assumes nothing.
use Rattle.std.specs.Prelude.{if◌then◌else◌}
use mathlib.Core.Path.{◌≡◌, refl, sym, ap, ◌∙◌}
use mathlib.Core.Bool.{Bool, true, false, false≢true, or-true}
use mathlib.Core.List.{List, [], ◌∷◌, ◌++◌, map}
use mathlib.Core.Option.{Option, none, some}
use Prim.Native.Nat.{ℕ, zero, suc, ◌≤◌, ◌<◌}
use native.Mathlib.Omega.{arith}
use lib.Dec.{eqb, ltb}
use lib.ListN.{length}
use borrow.Author.Tests.{eq-eqb, ne_eqb, eqb-true, ltb-true, lt-ltb}
use Rattle.cols_spec.specs.Sets.{keep, any, all, each, member}
use Rattle.cols_spec.specs.Places.{next, rising, in_order}
use Rattle.cols_spec.proofs.Bools.{and_parts, and_both, or_elim, or_parts, some_is, none≢some}
use Rattle.cols_spec.proofs.Kept.{next_is_there}
use Rattle.domain_laws.specs.View.{row, pick}
use Rattle.domain_laws.specs.Built.{ascending}
use Rattle.domain.proofs.Sending.{all_append}
use Rattle.domain_laws.proofs.same.Twins.{bool_ext}

up_head : (low x : ℕ) (xs : List ℕ) → ascending low (x ∷ xs) ≡ true → low < x
unfolding ascending
up_head low x xs h = ltb-true low x (and_parts (ltb low x) (ascending x xs) h).0

up_tail : (low x : ℕ) (xs : List ℕ) → ascending low (x ∷ xs) ≡ true → ascending x xs ≡ true
unfolding ascending
up_tail low x xs h = (and_parts (ltb low x) (ascending x xs) h).1

up_lower : (low high : ℕ) (xs : List ℕ) → low ≤ high → ascending high xs ≡ true → ascending low xs ≡ true
unfolding ascending
up_lower low high [] l h = refl
up_lower low high (x ∷ xs) l h = and_both (lt-ltb low x (omega (arith, l, up_head high x xs h))) (up_tail high x xs h)

pub up_member : (low : ℕ) (xs : List ℕ) (y : ℕ) → ascending low xs ≡ true → member y xs ≡ true → low < y
unfolding member any
up_member low [] y h m = absurd (false≢true m)
up_member low (x ∷ xs) y h m = or_elim (eqb y x) (member y xs) m (λ q. omega (arith, up_head low x xs h, eqb-true y x q)) (λ q. omega (arith, up_head low x xs h, up_member x xs y (up_tail low x xs h) q))

pub up_keep : (f : ℕ → Bool) (low : ℕ) (xs : List ℕ) → ascending low xs ≡ true → ascending low (keep f xs) ≡ true
unfolding keep ascending
up_keep f low [] h = refl
up_keep f low (x ∷ xs) h = go (f x) (up_keep f x xs (up_tail low x xs h))
  where
    go : (b : Bool) → ascending x (keep f xs) ≡ true → ascending low (if b then x ∷ keep f xs else keep f xs) ≡ true
    go true r = and_both (lt-ltb low x (up_head low x xs h)) r
    go false r = up_lower low x (keep f xs) (omega (arith, up_head low x xs h)) r

up_rising : (n low : ℕ) (ids : List ℕ) → ascending low (rising n low ids) ≡ true
unfolding rising ascending
up_rising zero low ids = refl
up_rising (suc n) low ids = go (next low 0 ids) refl (λ y. up_rising n y ids)
  where
    go : (y : ℕ) → next low 0 ids ≡ y → ((z : ℕ) → ascending z (rising n z ids) ≡ true) → ascending low (elim y as (λ (_ : ℕ). List ℕ) [ zero ↦ [] | suc z ↦ suc z ∷ rising n (suc z) ids ]) ≡ true
    go zero e rec = refl
    go (suc z) e rec = and_both (lt-ltb low (suc z) (omega (arith, e, (next_is_there low ids (λ q. omega (arith, e, q))).0))) (rec (suc z))

pub up_in_order : (ids : List ℕ) → ascending 0 (in_order ids) ≡ true
unfolding in_order
up_in_order ids = up_rising (length ids) 0 ids

up_least : (low x : ℕ) (xs : List ℕ) (z : ℕ) → ascending low (x ∷ xs) ≡ true → member z (x ∷ xs) ≡ true → x ≤ z
unfolding member any
up_least low x xs z h m = or_elim (eqb z x) (member z xs) m (λ q. omega (arith, eqb-true z x q)) (λ q. omega (arith, up_member x xs z (up_tail low x xs h) q))

-- equal where they have the same members
pub up_ext : (low : ℕ) (xs ys : List ℕ) → ascending low xs ≡ true → ascending low ys ≡ true → ((z : ℕ) → member z xs ≡ member z ys) → xs ≡ ys
unfolding member any
up_ext low [] [] a b f = refl
up_ext low [] (y ∷ ys) a b f = absurd (false≢true (f y ∙ rw (eq-eqb y y refl)))
up_ext low (x ∷ xs) [] a b f = absurd (false≢true (sym (f x) ∙ rw (eq-eqb x x refl)))
up_ext low (x ∷ xs) (y ∷ ys) a b f = rw (sym same) (ap (λ (l : List ℕ). x ∷ l) (up_ext x xs ys (up_tail low x xs a) (rw (sym same) at (up_tail low y ys b)) tails))
  where
    same : x ≡ y
    same = omega (arith, up_least low x xs y a (f y ∙ rw (eq-eqb y y refl)), up_least low y ys x b (sym (f x) ∙ rw (eq-eqb x x refl)))

    tails : (z : ℕ) → member z xs ≡ member z ys
    tails z = bool_ext (member z xs) (member z ys)
        (λ h. or_elim (eqb z y) (member z ys) (sym (f z) ∙ rw h (or-true (eqb z x))) (λ q. absurd (omega (arith, same, eqb-true z y q, up_member x xs z (up_tail low x xs a) h))) (λ q. q))
        (λ h. or_elim (eqb z x) (member z xs) (f z ∙ rw h (or-true (eqb z y))) (λ q. absurd (omega (arith, same, eqb-true z x q, up_member y ys z (up_tail low y ys b) h))) (λ q. q))

-- ---- rows whose ids ascend

-- nothing is said of an id that has no row
pub pick_none : {A : Type 0} (x : ℕ) (rs : List (ℕ × A)) → member x (map (λ r. r.0) rs) ≡ false → pick x rs ≡ none
unfolding pick member any
pick_none x [] h = refl
pick_none x (r ∷ rs) h = let q = or_parts (eqb x r.0) _ h in rw q.0 (pick_none x rs q.1)

-- the rows of what is picked of each id are the rows themselves
pub each_picked : {A : Type 0} (f : (ℕ → Option A)) (low : ℕ) (rs : List (ℕ × A)) → ascending low (map (λ r. r.0) rs) ≡ true → ((u : ℕ) → member u (map (λ r. r.0) rs) ≡ true → f u ≡ pick u rs)
    → each (λ u. row u (f u)) (map (λ r. r.0) rs) ≡ rs
unfolding each pick member any
each_picked f low [] a h = refl
each_picked {A} f low (r ∷ rs) a h =
    ap (λ (o : Option A). row r.0 o ++ each (λ u. row u (f u)) (map (λ r. r.0) rs)) here
    ∙ ap (λ (l : List (ℕ × A)). r ∷ l) (each_picked f r.0 rs (up_tail low r.0 _ a) (λ u m.
    h u (rw m (or-true (eqb u r.0))) ∙ rw (ne_eqb u r.0 (λ e. omega (arith, e, up_member r.0 (map (λ r. r.0) rs) u (up_tail low r.0 _ a) m)))))
  where
    here : f r.0 ≡ some r.1
    here = h r.0 (rw (eq-eqb r.0 r.0 refl)) ∙ rw (eq-eqb r.0 r.0 refl)

-- a test that every row passes
pub all_pick : {A : Type 0} (g : (A → Bool)) (x : ℕ) (rs : List (ℕ × A)) (a : A) → all (λ r. g r.1) rs ≡ true → pick x rs ≡ some a → g a ≡ true
unfolding pick all
all_pick g x [] a h e = absurd (none≢some e)
all_pick g x (r ∷ rs) a h e = let q = and_parts (g r.1) _ h in go (eqb x r.0) e q.0 (all_pick g x rs a q.1)
  where
    go : (b : Bool) → (if b then some r.1 else pick x rs) ≡ some a → g r.1 ≡ true → (pick x rs ≡ some a → g a ≡ true) → g a ≡ true
    go true e h rec = ap g (some_is e) ∙ h
    go false e h rec = rec e

pub all_member : (g : ℕ → Bool) (xs : List ℕ) (u : ℕ) → all g xs ≡ true → member u xs ≡ true → g u ≡ true
unfolding all member any
all_member g [] u h m = absurd (false≢true m)
all_member g (x ∷ xs) u h m = let q = and_parts (g x) (all g xs) h in or_elim (eqb u x) (member u xs) m (λ e. ap g (eqb-true u x e) ∙ q.0) (λ e. all_member g xs u q.1 e)

pub member_all : (g : ℕ → Bool) (xs : List ℕ) → ((u : ℕ) → member u xs ≡ true → g u ≡ true) → all g xs ≡ true
unfolding all member any
member_all g [] f = refl
member_all g (x ∷ xs) f = and_both (f x (rw (eq-eqb x x refl))) (member_all g xs (λ u m. f u (rw m (or-true (eqb u x)))))

pub each_all : {A : Type 0} (g : (A → Bool)) (f : (ℕ → List A)) (xs : List ℕ) → ((x : ℕ) → member x xs ≡ true → all g (f x) ≡ true) → all g (each f xs) ≡ true
unfolding each all member any
each_all g f [] h = refl
each_all g f (x ∷ xs) h = all_append g (f x) (each f xs) (h x (rw (eq-eqb x x refl))) (each_all g f xs (λ u m. h u (rw m (or-true (eqb u x)))))
