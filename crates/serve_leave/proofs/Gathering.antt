-- The loop over the users on p, ascending: each is above all who are listed already. Assumes nothing.
use Rattle.std.specs.Prelude.{if◌then◌else◌}
use mathlib.Core.Path.{◌≡◌, refl, sym, ap, ◌∙◌}
use mathlib.Core.Bool.{Bool, true, false, not, ◌&&◌, and-true, false≢true}
use mathlib.Core.List.{List, [], ◌∷◌, ◌++◌, append-nil, append_assoc}
use Prim.Native.Nat.{ℕ, zero, suc, ◌+◌, ◌≤◌, ◌<◌}
use native.Mathlib.Omega.{arith}
use borrow.Author.Tests.{eqb-true}
use lib.Dec.{eqb}
use lib.ListN.{length, get_or}
use Rattle.cols_spec.specs.Sets.{keep, any, each, member}
use Rattle.cols_spec.specs.Places.{Place, At, find, found, next, rising, in_order, picked}
use Rattle.cols_spec.proofs.Answers.{find_inside}
use Rattle.cols_spec.proofs.Bools.{or_elim}
use Rattle.cols_spec.proofs.Rows.{get_d_any}
use Rattle.cols_spec.proofs.Members.{member_append}
use Rattle.cols_spec.proofs.Order.{next_above}
use Rattle.cols_spec.proofs.Turns.{keep_append, rising_turn, rising_end}
use Rattle.cols_spec.proofs.Kept.{picked_length, each_picked}
use Rattle.domain.specs.Tables.{Users, users_of, link, attached}
use Rattle.domain.specs.Leaving.{those_on}
use Rattle.serve_leave.specs.declared.Leavers.{Leavers}
use Rattle.serve_leave.specs.Lists.{Leaves, with_leaver, Adds}
use Rattle.serve_leave.proofs.LeaverLaws.{leaves_nobody, chosen}

-- ---- those on p, of a list in two parts
module _ (us : Users) (p : ℕ) where
  on_append : (xs ys : List ℕ) → those_on us p (xs ++ ys) ≡ those_on us p xs ++ those_on us p ys
  unfolding those_on
  on_append xs ys = keep_append (λ u. found (attached us p u)) xs ys

  on_none : those_on us p [] ≡ []
  unfolding those_on keep
  on_none = refl

  one_by_one : (l : List ℕ) → those_on us p l ≡ each (λ u. those_on us p (u ∷ [])) l
  unfolding each
  one_by_one [] = on_none
  one_by_one (u ∷ l) = on_append (u ∷ []) l ∙ ap (λ (r : List ℕ). those_on us p (u ∷ []) ++ r) (one_by_one l)

-- ---- they are at the places whose connection is p
abbrev pub here : (homes : List ℕ) (p : ℕ) → ℕ → Bool
here homes p j = eqb (get_or homes j 0) p

module _ (names homes : List ℕ) (p : ℕ) (size : length homes ≡ length names) where
  away : (u j : ℕ) → find names u ≡ At j → here homes p j ≡ false → those_on (users_of names homes) p (u ∷ []) ≡ []
  unfolding those_on keep attached link found
  away u j e h =
      ap (λ (w : Place). if found (chosen (users_of names homes) p w) then u ∷ [] else []) e ∙ rw (get_d_any homes j 16 0 (omega (arith, find_inside names u j e)), h) refl

  on_here : those_on (users_of names homes) p (in_order names) ≡ those_on (users_of names homes) p (in_order (picked (here homes p) 0 names))
  on_here =
      let us = users_of names homes in
      one_by_one us p (in_order names) ∙ each_picked (λ u. those_on us p (u ∷ [])) (here homes p) names away ∙ sym (one_by_one us p (in_order (picked (here homes p) 0 names)))

-- ---- the loop: `all` is what is to be listed, of the ids `kept`
pub record Gathering (us : Users) (p : ℕ) (all kept list : List ℕ) (t : Leavers) (low rest : ℕ) : Type 0 where
  pub room : t.count + rest ≤ 64
  pub done : List ℕ
  pub leaves : Leaves us done list t
  pub under : (y : ℕ) → member y done ≡ true → y ≤ low
  pub left : all ≡ done ++ those_on us p (rising rest low kept)

pub gather_start : (names homes : List ℕ) (p : ℕ) (list : List ℕ) (n : ℕ) → n ≡ length names → length names ≡ 64 → length homes ≡ 64
    → Gathering (users_of names homes) p (those_on (users_of names homes) p (in_order names)) (picked (here homes p) 0 names) list (record { count = 0; seats = 0 }) 0 n
unfolding in_order member any
gather_start names homes p list n e h k = record {
  room = omega arith;
  done = [];
  leaves = leaves_nobody (users_of names homes) list;
  under = λ y m. absurd (false≢true m);
  left = on_here names homes p (omega arith) ∙ ap (λ (m : ℕ). those_on (users_of names homes) p (rising m 0 (picked (here homes p) 0 names))) (picked_length (here homes p) 0 names ∙ sym e);
}

module _ {us : Users} {p : ℕ} {all kept list : List ℕ} {t : Leavers} {low rest : ℕ} (s : Gathering us p all kept list t low rest) where
  module _ (u : ℕ) (e : u ≡ next low 0 kept) (some : u ≡ 0 → ⊥) where
    above : low < u
    above = omega (arith, next_above low 0 kept (λ n. absurd (n refl)) (λ q. some (e ∙ q)))

    unlisted : member u s.done ≡ false
    unlisted = go (member u s.done) refl
      where
        go : (b : Bool) → member u s.done ≡ b → b ≡ false
        go true q = absurd (omega (arith, above, s.under u q))
        go false q = refl

    one_on : with_leaver us p s.done u ≡ s.done ++ those_on us p (u ∷ [])
    unfolding with_leaver those_on keep
    one_on = rw (unlisted, and-true (found (attached us p u))) refl

    not_above : (y : ℕ) → member y (with_leaver us p s.done u) ≡ true → y ≤ u
    unfolding with_leaver member any
    not_above y m =
        or_elim (member y s.done) _ (sym (member_append y s.done _) ∙ m) (λ q. omega (arith, above, s.under y q)) (go (found (attached us p u) && not (member u s.done)))
      where
        go : (b : Bool) → member y (if b then u ∷ [] else []) ≡ true → y ≤ u
        go true q = or_elim (eqb y u) false q (λ r. omega (arith, eqb-true y u r)) (λ r. absurd (false≢true r))
        go false q = absurd (false≢true q)

    pub gather_turn : {after : List ℕ} {r : Leavers} (less : ℕ) → rest ≡ suc less → Adds us p u list t after r → Gathering us p all kept after r u less
    gather_turn less h g =
        record {
          room = omega (arith, g.few, s.room);
          done = with_leaver us p s.done u;
          leaves = g.grows s.done s.leaves;
          under = not_above;
          left = s.left ∙ ap (λ (l : List ℕ). s.done ++ those_on us p l) next_first ∙ ap (λ (l : List ℕ). s.done ++ l) (on_append us p (u ∷ []) (rising less u kept))
              ∙ sym (append_assoc s.done (those_on us p (u ∷ [])) (those_on us p (rising less u kept))) ∙ ap (λ (l : List ℕ). l ++ those_on us p (rising less u kept)) (sym one_on);
        }
      where
        next_first : rising rest low kept ≡ u ∷ rising less u kept
        next_first = rw h (rising_turn less low kept u (sym e) (omega arith))

  ends : rising rest low kept ≡ [] → Leaves us all list t
  ends z = rw (s.left ∙ ap (λ (l : List ℕ). s.done ++ those_on us p l) z ∙ ap (λ (l : List ℕ). s.done ++ l) (on_none us p) ∙ append-nil s.done) s.leaves

  pub gather_stop : (u : ℕ) → u ≡ next low 0 kept → u ≡ 0 → Leaves us all list t
  unfolding rising
  gather_stop u e z = ends (go rest)
    where
      go : (k : ℕ) → rising k low kept ≡ []
      go zero = refl
      go (suc k) = rising_end k low kept (sym e ∙ z)

  pub gather_end : rest ≤ 0 → Leaves us all list t
  unfolding rising
  gather_end h = ends (go rest h)
    where
      go : (k : ℕ) → k ≤ 0 → rising k low kept ≡ []
      go zero y = refl
      go (suc k) y = absurd (omega arith)
