-- The ids of channels that end as marks: with one more, and a walk over a column that marks those that it picks.
use Rattle.std.specs.Prelude.{if◌then◌else◌}
use mathlib.Core.Path.{◌≡◌, refl, sym, ◌∙◌}
use mathlib.Core.Bool.{Bool, true, false, ◌||◌, or-false}
use mathlib.Core.List.{List, [], ◌∷◌, ◌++◌}
use Prim.Native.Nat.{ℕ, ◌+◌, ◌≤◌, ◌<◌}
use native.Mathlib.Numerals.{add-one}
use native.Mathlib.Omega.{arith}
use lib.ListN.{length, get_or, take}
use lib.Seq.{take-suc, take_all}
use borrow.Author.Tests.{ne_eqb}
use Rattle.cols_spec.specs.Sets.{any, member, union, ids_above, seats}
use Rattle.cols_spec.specs.Places.{picked}
use Rattle.cols_spec.proofs.Below.{across}
use Rattle.cols_spec.proofs.Digits.{is_those, those_lt, or_union}
use Rattle.cols_spec.proofs.Members.{member_append}
use Rattle.cols_spec.proofs.Gaps.{has_marked, marked_lt, marked_append, marked_none}
use Rattle.cols_spec.proofs.Kept.{picked_length, picked_at}
use Rattle.serve_leave_records.specs.declared.Ending.{Ending}
use Rattle.serve_leave_records.specs.Endings.{other, Marks}

-- ---- one list behind another

marked_both : (low : ℕ) (xs ys : List ℕ) → union seats (ids_above low xs) (ids_above low ys) ≡ ids_above low (xs ++ ys)
marked_both low xs ys = sym (or_union 64 (ids_above low xs) (ids_above low ys) (marked_lt low xs) (marked_lt low ys)) ∙ marked_append low xs ys

any_both : (f : ℕ → Bool) (xs ys : List ℕ) → any f (xs ++ ys) ≡ (any f xs || any f ys)
unfolding any
any_both f [] ys = refl
any_both f (x ∷ xs) ys = go (f x) (any_both f xs ys)
  where
    go : (b : Bool) → any f (xs ++ ys) ≡ (any f xs || any f ys) → (b || any f (xs ++ ys)) ≡ ((b || any f xs) || any f ys)
    go true e = refl
    go false e = e

-- ---- one more

pub marks_more : (c : ℕ) {xs : List ℕ} {low high : ℕ} {beyond : Bool} {e : Ending} → Marks xs e → low ≡ union seats e.low (ids_above 1000 (c ∷ []))
    → high ≡ union seats e.high (ids_above 1064 (c ∷ [])) → beyond ≡ (e.beyond || other c) → Marks (xs ++ c ∷ []) (record { low = low; high = high; beyond = beyond })
unfolding any
marks_more c {xs} m a b d = record {
  low_are = a ∙ rw m.low_are (marked_both 1000 xs (c ∷ []));
  high_are = b ∙ rw m.high_are (marked_both 1064 xs (c ∷ []));
  others = d ∙ rw (m.others, any_both other xs (c ∷ []), or-false (other c)) refl;
}

-- ---- a walk over a column: those before place j are marked

pub marks_start : Marks [] (record { low = 0; high = 0; beyond = false })
unfolding any
marks_start = record { low_are = marked_none 1000; high_are = marked_none 1064; others = refl }

marked_zero : (low : ℕ) (xs : List ℕ) → ids_above low (xs ++ 0 ∷ []) ≡ ids_above low xs
unfolding ids_above member any
marked_zero low xs = is_those 64 (ids_above low (xs ++ 0 ∷ [])) _ (those_lt 64 _) (λ k l.
    has_marked low (xs ++ 0 ∷ []) k l ∙ member_append (low + 1 + k) xs (0 ∷ []) ∙ rw (ne_eqb (low + 1 + k) 0 (λ z. omega arith)) (or-false (member (low + 1 + k) xs)))

marks_free : {xs : List ℕ} {e : Ending} → Marks xs e → Marks (xs ++ 0 ∷ []) e
unfolding any
marks_free {xs} m = record {
  low_are = m.low_are ∙ sym (marked_zero 1000 xs);
  high_are = m.high_are ∙ sym (marked_zero 1064 xs);
  others = m.others ∙ rw (any_both other xs (0 ∷ [])) (sym (or-false (any other xs)));
}

module _ (test : ℕ → Bool) (ids : List ℕ) where
  abbrev pub those_before : ℕ → List ℕ
  those_before j = take j (picked test 0 ids)

  before_next : (j : ℕ) → j < length ids → those_before (j + 1) ≡ those_before j ++ (if test j then get_or ids j 0 else 0) ∷ []
  before_next j h = rw (add-one j, take-suc (picked test 0 ids) j 0 (omega (arith, picked_length test 0 ids)), picked_at test ids j) refl

  pub marks_turn : (r : Ending) (j c : ℕ) → j < length ids → c ≡ (if test j then get_or ids j 0 else 0) → Marks (those_before j ++ c ∷ []) r → Marks (those_before (j + 1)) r
  marks_turn r j c h q m = rw (before_next j h, ← q) m

  -- on to another place, where none between passes
  pub marks_on : (e : Ending) (j k : ℕ) → j ≤ k → k ≤ length ids → ((i : ℕ) → j ≤ i → i < k → test i ≡ false) → Marks (those_before j) e → Marks (those_before k) e
  marks_on e j k h l f = across (λ i. Marks (those_before i) e) k h (λ i a b m. rw (before_next i (omega arith), f i a b) (marks_free m))

  pub marks_end : (e : Ending) (j : ℕ) → length ids ≤ j → Marks (those_before j) e → Marks (picked test 0 ids) e
  marks_end e j h m = rw (take_all j (picked test 0 ids) (omega (arith, picked_length test 0 ids))) at m
