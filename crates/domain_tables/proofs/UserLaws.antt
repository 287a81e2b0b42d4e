-- Users: who is attached where, and the connections of a set of users.
use Rattle.std.specs.Prelude.{if◌then◌else◌}
use mathlib.Core.Path.{◌≡◌, refl, sym, ap, ◌∙◌}
use mathlib.Core.Bool.{Bool, true, false, ◌&&◌, ◌||◌, and-true, or-false, false≢true}
use mathlib.Core.List.{List, [], ◌∷◌}
use Prim.Native.Nat.{ℕ, zero, suc, ◌+◌, ◌/◌, ◌^◌, ◌≤◌, ◌<◌, zero-le}
use native.Mathlib.Nat.{zero-add}
use native.Mathlib.Numerals.{add-one}
use native.Mathlib.Omega.{arith}
use lib.Count.{count_trailing_zeros, trailing_of_zero}
use lib.Dec.{eqb, ltb}
use lib.ListN.{length, get_or}
use borrow.Author.Tests.{eq-eqb, ne_eqb, eqb-true, eqb-false, ltb-true, ltb-false}
use Rattle.cols_spec.specs.Sets.{any, upto, below, has, with, without, connections, seats, NextIn}
use Rattle.cols_spec.specs.Places.{Place, At, Nowhere, find}
use Rattle.cols_spec.proofs.Rows.{get_d_any}
use Rattle.cols_spec.proofs.Digits.{has_high, has_with, has_without, is_those, those_lt}
use Rattle.cols_spec.proofs.Marks.{in_without}
use Rattle.cols_spec.proofs.Nexts.{next_none, next_small, next_found, next_keeps}
use Rattle.domain.specs.Tables.{Users, users_of, link, attached, hosts}

-- ---- attached on p

at_of : Users → ℕ → Place → Place
at_of us p w = elim w [ At i ↦ if eqb (link us i) p then At i else Nowhere | Nowhere ↦ Nowhere ]

pub link_is : (names homes : List ℕ) (i : ℕ) → i < length homes → link (users_of names homes) i ≡ get_or homes i 0
unfolding link
link_is names homes i h = get_d_any homes i connections 0 h

module _ (names homes : List ℕ) (p u i : ℕ) where
  pub is_attached : find names u ≡ At i → i < length homes → get_or homes i 0 ≡ p → attached (users_of names homes) p u ≡ At i
  unfolding attached at_of
  is_attached e h q = ap (λ (w : Place). at_of (users_of names homes) p w) e ∙ rw (link_is names homes i h, eq-eqb (get_or homes i 0) p q) refl

  pub not_attached : find names u ≡ At i → i < length homes → (get_or homes i 0 ≡ p → ⊥) → attached (users_of names homes) p u ≡ Nowhere
  unfolding attached at_of
  not_attached e h q = ap (λ (w : Place). at_of (users_of names homes) p w) e ∙ rw (link_is names homes i h, ne_eqb (get_or homes i 0) p q) refl

pub attached_none : (names homes : List ℕ) (p u : ℕ) → find names u ≡ Nowhere → attached (users_of names homes) p u ≡ Nowhere
unfolding attached at_of
attached_none names homes p u e = ap (λ (w : Place). at_of (users_of names homes) p w) e

-- ---- the connections of a set of users

-- one more number below n
any_last : (f : ℕ → Bool) (n : ℕ) (rest : List ℕ) → any f (upto n rest) ≡ (any f (below n) || any f rest)
unfolding any upto
any_last f zero rest = refl
any_last f (suc n) rest = any_last f n (n ∷ rest) ∙ three (any f (below n)) (f n) (any f rest) ∙ ap (λ (b : Bool). b || any f rest) (sym (any_last f n (n ∷ [])))
  where
    three : (a b c : Bool) → (a || (b || c)) ≡ ((a || (b || false)) || c)
    three true b c = refl
    three false true c = refl
    three false false c = refl

any_next : (f : ℕ → Bool) (n : ℕ) → any f (below (suc n)) ≡ (any f (below n) || f n)
unfolding any upto
any_next f n = any_last f n (n ∷ []) ∙ ap (λ (b : Bool). any f (below n) || b) (or-false (f n))

with_lt : (w m k : ℕ) → with w m k < 2 ^ w
unfolding with
with_lt w m k = those_lt w _

-- user i is of the set, on connection q
abbrev pub hosted : (us : Users) (who q i : ℕ) → Bool
hosted us who q i = has who i && eqb (link us i) q

-- a loop over the users: m is the mask of the connections of those before i
pub record Hosting (us : Users) (who m i : ℕ) : Type 0 where
  pub small : m < 2 ^ connections
  pub has_are : (q : ℕ) → q < connections → has m q ≡ any (hosted us who q) (below i)

hosting_start : (us : Users) (who : ℕ) → Hosting us who 0 0
unfolding any upto
hosting_start us who = record { small = omega arith; has_are = λ q h. has_high 0 0 q (omega arith) zero-le }

module _ {us : Users} {who m i : ℕ} (s : Hosting us who m i) where
  hosted_next : (b : Bool) → has who i ≡ b → (q : ℕ) → any (hosted us who q) (below (i + 1)) ≡ (any (hosted us who q) (below i) || (b && eqb (link us i) q))
  hosted_next b e q = rw add-one (any_next (hosted us who q) i ∙ ap (λ (b : Bool). any (hosted us who q) (below i) || (b && eqb (link us i) q)) e)

  hosting_with : has who i ≡ true → Hosting us who (with connections m (link us i)) (i + 1)
  hosting_with e = record {
    small = with_lt connections m (link us i);
    has_are = λ q h. has_with connections (link us i) q h m ∙ ap (λ (b : Bool). b || eqb (link us i) q) (s.has_are q h) ∙ sym (hosted_next true e q);
  }

  hosting_without : has who i ≡ false → Hosting us who m (i + 1)
  hosting_without e = record {
    small = s.small;
    has_are = λ q h. s.has_are q h ∙ sym (hosted_next false e q ∙ or-false (any (hosted us who q) (below i)));
  }

  hosting_end : i ≡ seats → m ≡ hosts us who
  unfolding hosts
  hosting_end e = is_those connections m _ s.small (λ q h. s.has_are q h ∙ ap (λ (n : ℕ). any (hosted us who q) (below n)) e)

-- to the next user of the set
hosting_past : {us : Users} {who m i r : ℕ} → Hosting us who m i → NextIn who i r → i ≤ seats → Hosting us who m r
hosting_past {us} {who} {m} s x l = next_keeps x l (λ (k : ℕ). Hosting us who m k) (λ k a e t. hosting_without t e) s

-- ---- the same loop, which takes each user out of the set

-- the lowest of a set
module _ (m : ℕ) (l : m < 2 ^ seats) where
  as_found : 0 + count_trailing_zeros seats (m / 2 ^ 0) ≡ count_trailing_zeros seats m
  as_found = let whole : m / 2 ^ 0 ≡ m = omega arith in rw whole (zero-add (count_trailing_zeros seats m))

  pub lowest_small : (m ≡ 0 → ⊥) → count_trailing_zeros seats m < seats
  lowest_small n = rw as_found at (next_small m 0 l (λ z. n (omega arith)))

  lowest : NextIn m 0 (count_trailing_zeros seats m)
  lowest = go (eqb m 0) refl
    where
      go : (b : Bool) → eqb m 0 ≡ b → NextIn m 0 (count_trailing_zeros seats m)
      go true e = rw (eqb-true m 0 e, trailing_of_zero seats) (next_none 0 0 refl)
      go false e = rw as_found at (next_found m 0 l (λ z. eqb-false m 0 e (omega arith)))

-- i is the lowest that is left: all from there on are left, and m is the mask of the connections of those before it
pub record Left (us : Users) (who left m i : ℕ) : Type 0 where
  pub fits : left < 2 ^ seats
  pub first : NextIn left 0 i
  pub before : Hosting us who m i
  pub same : (k : ℕ) → k < seats → i ≤ k → has who k ≡ has left k

pub left_all : (us : Users) (who : ℕ) → who < 2 ^ seats → Left us who who 0 (count_trailing_zeros seats who)
left_all us who l = record { fits = l; first = lowest who l; before = hosting_past (hosting_start us who) (lowest who l) zero-le; same = λ k h a. refl }

-- i is taken out, and its connection is marked
module _ {us : Users} {who left m i : ℕ} (s : Left us who left m i) (h : i < seats) where
  rest_fits : without seats left i < 2 ^ seats
  unfolding without
  rest_fits = those_lt seats _

  abbrev next : ℕ
  next = count_trailing_zeros seats (without seats left i)

  next_is : NextIn (without seats left i) 0 next
  next_is = lowest (without seats left i) rest_fits

  pub left_higher : i < next
  left_higher = go (ltb next seats) refl (ltb next i) refl
    where
      go : (b : Bool) → ltb next seats ≡ b → (d : Bool) → ltb next i ≡ d → i < next
      go false e d f = omega (arith, ltb-false next seats e)
      go true e d f = further d f (in_without seats left next i (next_is.here (ltb-true next seats e)).1)
        where
          further : (d : Bool) → ltb next i ≡ d → (has left next ≡ true) × (next ≡ i → ⊥) → i < next
          further true f p = absurd (false≢true (sym (s.first.passed next zero-le (ltb-true next i f)) ∙ p.0))
          further false f p = omega (arith, ltb-false next i f)

  behind : (k : ℕ) → k < seats → i < k → has who k ≡ has (without seats left i) k
  behind k l a = s.same k l (omega arith) ∙ sym (has_without seats i k l left ∙ rw (ne_eqb i k (λ e. omega arith)) (and-true (has left k)))

  next_of_all : NextIn who (i + 1) next
  next_of_all = record {
    within = next_is.within;
    passed = λ k a b. behind k (omega (arith, next_is.within)) (omega arith) ∙ next_is.passed k zero-le b;
    here = λ l. (omega (arith, left_higher), behind next l left_higher ∙ (next_is.here l).1);
  }

  pub left_next : Left us who (without seats left i) (with connections m (link us i)) next
  left_next = record {
    fits = rest_fits;
    first = next_is;
    before = hosting_past (hosting_with s.before (s.same i h (omega arith) ∙ (s.first.here h).1)) next_of_all (omega arith);
    same = λ k l a. behind k l (omega (arith, left_higher));
  }

pub left_none : {us : Users} {who left m : ℕ} → Left us who left m (count_trailing_zeros seats left) → left ≡ 0 → m ≡ hosts us who
left_none s e = hosting_end s.before (ap (count_trailing_zeros seats) e ∙ trailing_of_zero seats)
