-- A mask of connections and the list of its connections, ascending: each gives the other. Assumes nothing.
use Rattle.std.specs.Prelude.{if◌then◌else◌}
use mathlib.Core.Path.{◌≡◌, refl, sym, ap, ◌∙◌}
use mathlib.Core.Bool.{Bool, true, false, ◌&&◌, false≢true, and-true, or-true}
use mathlib.Core.List.{List, [], ◌∷◌}
use Prim.Native.Nat.{ℕ, ◌<◌, ◌≤◌, ◌^◌}
use native.Mathlib.Omega.{arith}
use lib.Dec.{eqb, leb, ltb}
use borrow.Author.Tests.{eq-eqb, eqb-true, leb-true}
use Rattle.cols_spec.specs.Sets.{keep, any, all, upto, below, has, those, listed, member}
use Rattle.cols_spec.proofs.Bools.{and_parts, and_both, or_elim}
use Rattle.cols_spec.proofs.Below.{any_hit}
use Rattle.cols_spec.proofs.Digits.{has_those, those_lt, mask_ext}
use Rattle.cols_spec.proofs.Marks.{has_low}
use Rattle.cols_spec.proofs.Members.{member_keep}
use Rattle.domain_laws.specs.Built.{ascending}
use Rattle.domain_laws.proofs.same.Twins.{bool_ext}
use Rattle.domain_laws.proofs.restored.Ascending.{up_member, up_keep, up_ext, all_member, member_all}
use Rattle.imaging.specs.Reading.{upward}

-- ---- lists that go upward

-- its first is the least
head_least : (x : ℕ) (xs : List ℕ) (z : ℕ) → ascending x xs ≡ true → member z (x ∷ xs) ≡ true → x ≤ z
unfolding member any
head_least x xs z h m = or_elim (eqb z x) (member z xs) m (λ q. omega (arith, eqb-true z x q)) (λ q. omega (arith, up_member x xs z h q))

-- with the same members they are the same
upward_ext : (xs ys : List ℕ) → upward xs ≡ true → upward ys ≡ true → ((z : ℕ) → member z xs ≡ member z ys) → xs ≡ ys
unfolding member any upward
upward_ext [] [] a b f = refl
upward_ext [] (y ∷ ys) a b f = absurd (false≢true (f y ∙ rw (eq-eqb y y refl)))
upward_ext (x ∷ xs) [] a b f = absurd (false≢true (sym (f x) ∙ rw (eq-eqb x x refl)))
upward_ext (x ∷ xs) (y ∷ ys) a b f = rw (sym same) (ap (λ (l : List ℕ). x ∷ l) (up_ext x xs ys a (rw (sym same) at b) tails))
  where
    same : x ≡ y
    same = omega (arith, head_least x xs y a (f y ∙ rw (eq-eqb y y refl)), head_least y ys x b (sym (f x) ∙ rw (eq-eqb x x refl)))

    tails : (z : ℕ) → member z xs ≡ member z ys
    tails z = bool_ext (member z xs) (member z ys)
        (λ h. or_elim (eqb z y) (member z ys) (sym (f z) ∙ rw h (or-true (eqb z x))) (λ q. absurd (omega (arith, same, eqb-true z y q, up_member x xs z a h))) (λ q. q))
        (λ h. or_elim (eqb z x) (member z xs) (f z ∙ rw h (or-true (eqb z y))) (λ q. absurd (omega (arith, same, eqb-true z x q, up_member y ys z b h))) (λ q. q))

-- a list that goes upward from some number
above_upward : (low : ℕ) (xs : List ℕ) → ascending low xs ≡ true → upward xs ≡ true
unfolding ascending upward
above_upward low [] h = refl
above_upward low (x ∷ xs) h = (and_parts (ltb low x) (ascending x xs) h).1

-- ---- the list of a mask

module _ (m : ℕ) where
  pub listed_upward : upward (listed 16 m) ≡ true
  unfolding listed keep upto ascending upward
  listed_upward = go (has m 0) (keep (has m) (1 ∷ 2 ∷ 3 ∷ 4 ∷ 5 ∷ 6 ∷ 7 ∷ 8 ∷ 9 ∷ 10 ∷ 11 ∷ 12 ∷ 13 ∷ 14 ∷ 15 ∷ [])) (up_keep (has m) 0 (1 ∷ 2 ∷ 3 ∷ 4 ∷ 5 ∷ 6 ∷ 7 ∷ 8 ∷ 9 ∷ 10 ∷ 11 ∷ 12 ∷ 13 ∷ 14 ∷ 15 ∷ []) refl)
    where
      go : (b : Bool) (xs : List ℕ) → ascending 0 xs ≡ true → upward (if b then 0 ∷ xs else xs) ≡ true
      go true xs h = h
      go false xs h = above_upward 0 xs h

  listed_member : (k : ℕ) → member k (listed 16 m) ≡ (has m k && member k (below 16))
  unfolding listed
  listed_member k = member_keep (has m) k (below 16)

  -- every connection of it is at most 15
  pub listed_low : all (λ q. leb q 15) (listed 16 m) ≡ true
  unfolding member any upto all
  listed_low = member_all (λ q. leb q 15) (listed 16 m) (λ u h. all_member (λ q. leb q 15) (below 16) u all_low (and_parts (has m u) _ (sym (listed_member u) ∙ h)).1)
    where
      all_low : all (λ q. leb q 15) (below 16) ≡ true
      all_low = refl

below_member : (k : ℕ) → k < 16 → member k (below 16) ≡ true
unfolding member
below_member k l = any_hit (eqb k) 16 [] k l (eq-eqb k k refl)

-- from a mask to its list and back
pub mask_back : (m : ℕ) → m < 2 ^ 16 → those 16 (λ q. member q (listed 16 m)) ≡ m
mask_back m h = mask_ext 16 _ m (those_lt 16 _) h (λ k l. has_those 16 _ k l ∙ listed_member m k ∙ rw (below_member k l) (and-true (has m k)))

-- from a list to its mask and back
pub list_back : (qs : List ℕ) → upward qs ≡ true → all (λ q. leb q 15) qs ≡ true → listed 16 (those 16 (λ q. member q qs)) ≡ qs
list_back qs a b = upward_ext _ qs (listed_upward (those 16 (λ q. member q qs))) a (λ z. listed_member (those 16 (λ q. member q qs)) z ∙ bool_ext _ _ (there z) (back z))
  where
    there : (z : ℕ) → (has (those 16 (λ q. member q qs)) z && member z (below 16)) ≡ true → member z qs ≡ true
    there z h = let r = (and_parts (has (those 16 (λ q. member q qs)) z) _ h).0 in sym (has_those 16 (λ q. member q qs) z (has_low 16 _ z (those_lt 16 _) r)) ∙ r

    back : (z : ℕ) → member z qs ≡ true → (has (those 16 (λ q. member q qs)) z && member z (below 16)) ≡ true
    back z h =
        let l : z ≤ 15 = leb-true z 15 (all_member (λ q. leb q 15) qs z b h) in
        and_both (has_those 16 (λ q. member q qs) z (omega arith) ∙ h) (below_member z (omega arith))
