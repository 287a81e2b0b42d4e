-- Striking out a record: it leaves the others, and where it cannot be struck out it is not there. Assumes nothing.
use Rattle.std.specs.Prelude.{if◌then◌else◌}
use mathlib.Core.Path.{◌≡◌, refl, sym, ap, ◌∙◌}
use mathlib.Core.Logic.Or
use mathlib.Core.HLevel.{⊥_prop}
use mathlib.Core.Bool.{Bool, true, false, true≢false}
use mathlib.Core.List.Perm
use mathlib.Core.List.{List, [], ◌∷◌, Mem, mem-cons_self, eq-or-mem_of_mem-cons, not-mem-nil, Perm}
use mathlib.Core.Option.{Option, none, some}
use Prim.Native.Nat.{ℕ, suc}
use lib.Dec.{eqb}
use lib.ListN.{length}
use borrow.Author.Tests.{eqb-true, eq-eqb}
use Rattle.cols_spec.proofs.Bools.{and_parts, and_both, none≢some}
use Rattle.judging.specs.Traces.{Packet, on}
use Rattle.judging.specs.Judge.{same_octets, same_packet, in_front, strike}

-- ---- the same record

-- equal by the test is equal
same_octets_are : (xs ys : List ℕ) → same_octets xs ys ≡ true → xs ≡ ys
unfolding same_octets
same_octets_are [] [] e = refl
same_octets_are [] (y ∷ ys) e = absurd (true≢false (sym e))
same_octets_are (x ∷ xs) [] e = absurd (true≢false (sym e))
same_octets_are (x ∷ xs) (y ∷ ys) e =
    let r = and_parts (eqb x y) (same_octets xs ys) e in
    let a : x ≡ y = eqb-true x y r.0 in
    let b : xs ≡ ys = same_octets_are xs ys r.1 in
    cc

are_same_octets : (xs : List ℕ) → same_octets xs xs ≡ true
unfolding same_octets
are_same_octets [] = refl
are_same_octets (x ∷ xs) = and_both (eq-eqb x x refl) (are_same_octets xs)

same_packet_is : (r s : Packet) → same_packet r s ≡ true → r ≡ s
unfolding same_packet
same_packet_is (on q xs) (on p ys) e =
    let r = and_parts (eqb q p) (same_octets xs ys) e in
    let a : q ≡ p = eqb-true q p r.0 in
    let b : xs ≡ ys = same_octets_are xs ys r.1 in
    cc

is_same_packet : (r : Packet) → same_packet r r ≡ true
unfolding same_packet
is_same_packet (on q xs) = and_both (eq-eqb q q refl) (are_same_octets xs)

-- ---- struck out

-- the one struck out, and those left, are all there were
strike_some : (r : Packet) (ss ls : List Packet) → strike r ss ≡ some ls → Perm ss (r ∷ ls)
unfolding strike
strike_some r [] ls e = absurd (none≢some e)
strike_some r (s ∷ ss) ls e = go (same_packet r s) refl (strike r ss) (strike_some r ss) e
  where
    go : (b : Bool) → same_packet r s ≡ b → (x : Option (List Packet)) → ((ks : List Packet) → x ≡ some ks → Perm ss (r ∷ ks))
        → (if b then some ss else in_front s x) ≡ some ls → Perm (s ∷ ss) (r ∷ ls)
    go true h x f e =
        let a : r ≡ s = same_packet_is r s h in
        let b : ss ≡ ls = cc in
        rw (a, b) (Perm.refl (s ∷ ls))
    go false h none f e = absurd (none≢some e)
    go false h (some ks) f e =
        let b : ls ≡ s ∷ ks = cc in
        rw b (Perm.trans (Perm.cons s (f ks refl)) (Perm.swap r s ks))

-- there is one fewer, so a count of those left can stand for them
pub strike_fewer : (r : Packet) (ss ls : List Packet) → strike r ss ≡ some ls → length ss ≡ suc (length ls)
unfolding strike
strike_fewer r [] ls e = absurd (none≢some e)
strike_fewer r (s ∷ ss) ls e = go (same_packet r s) (strike r ss) (strike_fewer r ss) e
  where
    go : (b : Bool) (x : Option (List Packet)) → ((ks : List Packet) → x ≡ some ks → length ss ≡ suc (length ks))
        → (if b then some ss else in_front s x) ≡ some ls → suc (length ss) ≡ suc (length ls)
    go true x f e = let b : ss ≡ ls = cc in rw b refl
    go false none f e = absurd (none≢some e)
    go false (some ks) f e = let b : ls ≡ s ∷ ks = cc in rw b (ap suc (f ks refl))

-- one that cannot be struck out is not among them
strike_none : (r : Packet) (ss : List Packet) → strike r ss ≡ none → Mem r ss → ⊥
unfolding strike
strike_none r [] e m = not-mem-nil m
strike_none r (s ∷ ss) e m = go (same_packet r s) refl (strike r ss) (strike_none r ss) e
  where
    go : (b : Bool) → same_packet r s ≡ b → (x : Option (List Packet)) → (x ≡ none → Mem r ss → ⊥) → (if b then some ss else in_front s x) ≡ none → ⊥
    go true h x f e = none≢some (sym e)
    go false h none f e = Or.elim ⊥_prop (eq-or-mem_of_mem-cons m) (λ q. true≢false (sym (is_same_packet r) ∙ (ap (same_packet r) q ∙ h))) (f refl)
    go false h (some ks) f e = none≢some (sym e)

-- ---- records that are those left, in any order
module _ (r : Packet) (rs left : List Packet) where
  -- one fewer on both sides
  pub fewer : (ss : List Packet) → strike r left ≡ some ss → Perm (r ∷ rs) left → Perm rs ss
  fewer ss e p = Perm.cons_inv (Perm.trans p (strike_some r left ss e))

  pub more : (ss : List Packet) → strike r left ≡ some ss → Perm rs ss → Perm (r ∷ rs) left
  more ss e p = Perm.trans (Perm.cons r p) (Perm.symm (strike_some r left ss e))

  -- one that cannot be struck out
  pub astray : strike r left ≡ none → Perm (r ∷ rs) left → ⊥
  astray e p = strike_none r left e ((Perm.mem_iff p).0 mem-cons_self)

-- the only record
pub only_one : (r s : Packet) (rs : List Packet) → Perm (r ∷ rs) (s ∷ []) → r ≡ s
unfolding strike
only_one r s rs p = go (same_packet r s) refl
  where
    go : (b : Bool) → same_packet r s ≡ b → r ≡ s
    go true h = same_packet_is r s h
    go false h = absurd (astray r rs (s ∷ []) (rw h refl) p)
