-- Ids in order, where only some of them bring anything: these stand in a column of their own and are taken from there.
use Rattle.std.specs.Prelude.{if◌then◌else◌}
use mathlib.Core.Path.{◌≡◌, refl, sym, ap, ◌∙◌}
use mathlib.Core.Bool.{Bool, true, false, true≢false, false≢true}
use mathlib.Core.List.{List, [], ◌∷◌, ◌++◌}
use Prim.Native.Nat.{ℕ, zero, suc, ◌+◌, ◌≤◌, ◌<◌}
use native.Mathlib.Omega.{arith}
use native.Mathlib.Nat.{le_refl, add-zero, zero-add, add-suc, suc-add}
use lib.Dec.{ltb}
use lib.ListN.{length, get_or}
use Rattle.cols_spec.specs.Sets.{any, each, member}
use Rattle.cols_spec.specs.Places.{At, find, next, rising, in_order, picked}
use Rattle.cols_spec.proofs.Rows.{in_list, find_holds}
use Rattle.cols_spec.proofs.Answers.{stands_found, found_somewhere}
use Rattle.cols_spec.proofs.Members.{member_at, member_where}
use Rattle.cols_spec.proofs.Order.{keep_le, above, above_less, next_of, next_above, next_there}
use Rattle.cols_spec.proofs.Turns.{rising_turn, rising_end}

-- ---- the next id is the least above `low`
module _ (low : ℕ) (xs : List ℕ) where
  pub next_least : (z : ℕ) → low < z → member z xs ≡ true → (low < next low 0 xs) × (next low 0 xs ≤ z)
  next_least z h m = next_of low z 0 xs (λ n. absurd (n refl)) h m

  pub next_is_there : (next low 0 xs ≡ 0 → ⊥) → (low < next low 0 xs) × (member (next low 0 xs) xs ≡ true)
  next_is_there n = (next_above low 0 xs (λ z. absurd (z refl)) n, next_there low 0 xs n)

  rising_none : ((z : ℕ) → low < z → member z xs ≡ true → ⊥) → (n : ℕ) → rising n low xs ≡ []
  unfolding rising
  rising_none f zero = refl
  rising_none f (suc n) = rising_end n low xs (go (next low 0 xs) refl)
    where
      go : (y : ℕ) → next low 0 xs ≡ y → next low 0 xs ≡ 0
      go zero e = e
      go (suc y) e = let r = next_is_there (λ q. omega (arith, e, q)) in absurd (f (next low 0 xs) r.0 r.1)

-- ---- the ids of `kept` are of `ids`, and every other id of `ids` brings nothing
module _ {B : Type 0} (f : ℕ → List B) (ids kept : List ℕ) (inside : (x : ℕ) → 0 < x → member x kept ≡ true → member x ids ≡ true)
    (silent : (x : ℕ) → 0 < x → member x ids ≡ true → member x kept ≡ false → f x ≡ []) where
  -- above a in the one, above b in the other: what `kept` has above b is above a
  same_above : (n m a b : ℕ) → above a ids ≤ n → above b kept ≤ m → b ≤ a → ((y : ℕ) → b < y → member y kept ≡ true → a < y)
      → each f (rising n a ids) ≡ each f (rising m b kept)
  unfolding each
  same_above zero m a b hn hm le gap = ap (each f) (rising_none a ids (λ z h k. omega (arith, above_less a z ids h k)) 0 ∙ sym (rising_none b kept none m))
    where
      none : (z : ℕ) → b < z → member z kept ≡ true → ⊥
      none z h k = omega (arith, above_less a z ids (gap z h k) (inside z (omega arith) k))
  same_above (suc n) m a b hn hm le gap = go (next a 0 ids) refl (λ k c d. same_above n k c d)
    where
      go : (x : ℕ) → next a 0 ids ≡ x
          → ((k c d : ℕ) → above c ids ≤ n → above d kept ≤ k → d ≤ c → ((y : ℕ) → d < y → member y kept ≡ true → c < y) → each f (rising n c ids) ≡ each f (rising k d kept))
          → each f (rising (suc n) a ids) ≡ each f (rising m b kept)
      go zero e rec = ap (each f) (rising_end n a ids e ∙ sym (rising_none b kept none m))
        where
          none : (z : ℕ) → b < z → member z kept ≡ true → ⊥
          none z h k = omega (arith, e, next_least a ids z (gap z h k) (inside z (omega arith) k))
      go (suc w) e rec = ap (each f) (rising_turn n a ids x e (omega arith)) ∙ by (member x kept) refl m hm
        where
          x : ℕ
          x = suc w

          here : (a < x) × (member x ids ≡ true)
          here = rw e at (next_is_there a ids (λ q. omega (arith, e, q)))

          fewer : above x ids ≤ n
          fewer = omega (arith, hn, above_less a x ids here.0 here.1)

          -- what `kept` has above b is no less than x
          least : (y : ℕ) → b < y → member y kept ≡ true → x ≤ y
          least y h k = omega (arith, e, next_least a ids y (gap y h k) (inside y (omega arith) k))

          -- x is the next of `kept` too, or brings nothing
          by : (t : Bool) → member x kept ≡ t → (k : ℕ) → above b kept ≤ k → f x ++ each f (rising n x ids) ≡ each f (rising k b kept)
          by true q zero h = absurd (omega (arith, h, above_less b x kept (omega (arith, le, here.0)) q))
          by true q (suc k) h =
              let u : b < x = omega (arith, le, here.0) in
              let v = next_least b kept x u q in
              let is : next b 0 kept ≡ x = omega (arith, v, least (next b 0 kept) v.0 (next_is_there b kept (λ z. omega (arith, v, z))).1) in
              rw (rising_turn k b kept x is (omega arith)) (ap (λ (l : List B). f x ++ l) (rec k x x fewer (omega (arith, h, above_less b x kept u q)) (le_refl x) (λ y g m. g)))
          by false q k h =
              rw (silent x (omega arith) here.1 q)
              (rec k x b fewer h (omega (arith, le, here.0)) (λ y g m. omega (arith, least y g m, other y m)))
            where
              other : (y : ℕ) → member y kept ≡ true → x ≡ y → ⊥
              other y m z = true≢false (sym m ∙ ap (λ (v : ℕ). member v kept) (sym z) ∙ q)

  pub each_same : each f (in_order ids) ≡ each f (in_order kept)
  unfolding in_order above
  each_same = same_above (length ids) (length kept) 0 0 (keep_le (ltb 0) ids) (keep_le (ltb 0) kept) (le_refl 0) (λ y h m. h)

-- ---- the ids whose places pass, at their own places
module _ (test : ℕ → Bool) where
  pub picked_length : (i : ℕ) (ids : List ℕ) → length (picked test i ids) ≡ length ids
  unfolding picked
  picked_length i [] = refl
  picked_length i (x ∷ ids) = ap suc (picked_length (suc i) ids)

  picked_from : (i : ℕ) (ids : List ℕ) (j : ℕ) → get_or (picked test i ids) j 0 ≡ (if test (i + j) then get_or ids j 0 else 0)
  unfolding picked
  picked_from i [] j = go (test (i + j))
    where
      go : (b : Bool) → ◌≡◌ {A = ℕ} 0 (if b then 0 else 0)
      go true = refl
      go false = refl
  picked_from i (x ∷ ids) zero = rw (add-zero i) refl
  picked_from i (x ∷ ids) (suc j) = rw (add-suc i j, ← suc-add i j) (picked_from (suc i) ids j)

  pub picked_at : (ids : List ℕ) (j : ℕ) → get_or (picked test 0 ids) j 0 ≡ (if test j then get_or ids j 0 else 0)
  picked_at ids j = rw (zero-add j) at (picked_from 0 ids j)

-- where every other id brings nothing, these are all that count, at their own places
module _ {B : Type 0} (f : ℕ → List B) (test : ℕ → Bool) (ids : List ℕ) (silent : (x j : ℕ) → find ids x ≡ At j → test j ≡ false → f x ≡ []) where
  abbrev those_picked : List ℕ
  those_picked = picked test 0 ids

  is_there : (x : ℕ) → 0 < x → member x those_picked ≡ true → member x ids ≡ true
  is_there x h m = go (member_where those_picked x m)
    where
      by : (j : ℕ) (b : Bool) → (if b then get_or ids j 0 else 0) ≡ x → member x ids ≡ true
      by j true e = rw e at (member_at ids j (in_list ids j (rw e h)))
      by j false e = absurd (omega arith)

      go : (j : ℕ) × (get_or those_picked j 0 ≡ x) → member x ids ≡ true
      go (j, e) = by j (test j) (sym (picked_at test ids j) ∙ e)

  place_of : (x : ℕ) → 0 < x → member x ids ≡ true → (j : ℕ) × (find ids x ≡ At j)
  place_of x h m = let r = member_where ids x m in found_somewhere (find ids x) (stands_found ids x r.0 h r.1)

  is_silent : (x : ℕ) → 0 < x → member x ids ≡ true → member x those_picked ≡ false → f x ≡ []
  is_silent x h m n = go (place_of x h m).0 (place_of x h m).1 (test (place_of x h m).0) refl
    where
      go : (j : ℕ) → find ids x ≡ At j → (b : Bool) → test j ≡ b → f x ≡ []
      go j e true q =
          let z : get_or those_picked j 0 ≡ x = picked_at test ids j ∙ rw q (find_holds ids x j e).0 in
          absurd (true≢false (sym (rw z at (member_at those_picked j (in_list those_picked j (rw z h)))) ∙ n))
      go j e false q = silent x j e q

  pub each_picked : each f (in_order ids) ≡ each f (in_order those_picked)
  each_picked = each_same f ids those_picked is_there is_silent

  pub each_none : ((j : ℕ) → test j ≡ false) → each f (in_order ids) ≡ []
  unfolding each in_order rising member any
  each_none none =
      each_same f ids [] (λ x h m. absurd (false≢true m)) (λ x h m n. let r = place_of x h m in silent x r.0 r.1 (none r.0))
