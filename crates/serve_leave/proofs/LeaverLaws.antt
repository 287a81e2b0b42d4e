-- Those listed: nobody, one user more, and whether there are any. Assumes nothing.
use Rattle.std.specs.Prelude.{if◌then◌else◌}
use mathlib.Core.Path.{◌≡◌, refl, sym, ap, ◌∙◌}
use mathlib.Core.Bool.{Bool, true, false, not, ◌&&◌}
use mathlib.Core.List.{List, [], ◌∷◌, ◌++◌, append-nil}
use Prim.Native.Nat.{ℕ, zero, suc, ◌+◌, ◌≤◌, ◌<◌, zero-le}
use native.Mathlib.Numerals.{add-one}
use native.Mathlib.Omega.{arith}
use lib.Dec.{eqb}
use lib.ListN.{length, get_or, set, take, length-set}
use lib.Seq.{take-suc-set, get_or-set_other}
use Rattle.cols_spec.specs.Sets.{null, member, has, with, seats}
use Rattle.cols_spec.specs.Places.{Place, At, Nowhere, find, found, number}
use Rattle.cols_spec.proofs.Answers.{find_inside}
use Rattle.cols_spec.proofs.Rows.{find_holds}
use Rattle.domain.specs.Tables.{Users, link, attached}
use Rattle.domain.proofs.Listed.{places_has}
use Rattle.domain_tables.proofs.Marking.{places_none, places_more}
use Rattle.serve_leave.specs.declared.Leavers.{Leavers}
use Rattle.serve_leave.specs.Lists.{Leaves, with_leaver, Adds}

pub leaves_nobody : (us : Users) (list : List ℕ) → Leaves us [] list (record { count = 0; seats = 0 })
leaves_nobody us list = record { held = refl; few = zero-le; inside = zero-le; seated = places_none us }

-- ---- a user attached on p stands at the place where it is found: a place counts whose connection is p
abbrev pub chosen : (us : Users) (p : ℕ) (w : Place) → Place
chosen us p w = elim w [ At i ↦ if eqb (link us i) p then At i else Nowhere | Nowhere ↦ Nowhere ]

attached_find : (us : Users) (p u i : ℕ) → attached us p u ≡ At i → find us.ids u ≡ At i
unfolding attached
attached_find us p u i = go (find us.ids u)
  where
    pick : (j : ℕ) (b : Bool) → (if b then At j else Nowhere) ≡ At i → At j ≡ At i
    pick j true e = e
    pick j false e = absurd (let z : ◌≡◌ {A = ℕ} 0 1 = cc in omega arith)

    go : (w : Place) → chosen us p w ≡ At i → w ≡ At i
    go (At j) = pick j (eqb (link us j) p)
    go Nowhere = λ e. e

-- it is the user that stands there
pub attached_there : (us : Users) (p u i : ℕ) → attached us p u ≡ At i → (get_or us.ids i 0 ≡ u) × (i < length us.ids)
attached_there us p u i e = let h = find_holds us.ids u i (attached_find us p u i e) in (h.0, h.1)

-- ---- one user more: what the search for it answers decides
module _ (us : Users) (p u : ℕ) (list : List ℕ) (t : Leavers) where
  joined_same : (ids : List ℕ) → (found (attached us p u) && not (member u ids)) ≡ false → ids ≡ with_leaver us p ids u
  unfolding with_leaver
  joined_same ids e = rw e (sym (append-nil ids))

  stays : ((ids : List ℕ) → Leaves us ids list t → (found (attached us p u) && not (member u ids)) ≡ false) → Adds us p u list t list t
  stays f = record { grows = λ ids h. rw (← joined_same ids (f ids h)) h; few = omega arith; behind = λ j h. refl }

  pub adds_nobody : attached us p u ≡ Nowhere → Adds us p u list t list t
  unfolding found
  adds_nobody e = stays (λ ids l. rw e refl)

  module _ (size : length us.ids ≡ 64) (j : ℕ) (here : attached us p u ≡ At j) where
    -- a place has one user
    seen : (ids : List ℕ) → Leaves us ids list t → has t.seats j ≡ member u ids
    seen ids l =
        let is = attached_find us p u j here in
        ap (λ (m : ℕ). has m j) l.seated ∙ places_has us u j is (omega (arith, find_inside us.ids u j is)) ids

    pub adds_again : has t.seats j ≡ true → Adds us p u list t list t
    unfolding found
    adds_again e = stays (λ ids l. rw (here, sym (seen ids l) ∙ e) refl)

    pub adds_new : has t.seats j ≡ false → t.count < 64 → length list ≡ 64 → (mask : ℕ) → mask ≡ with seats t.seats j
        → Adds us p u list t (set list t.count u) (record { count = t.count + 1; seats = mask })
    unfolding found with_leaver number
    adds_new e h size mask m = record {
      grows = λ ids l. rw (here, sym (seen ids l) ∙ e) (record {
        held = rw (add-one t.count) (take-suc-set list t.count u (omega arith)) ∙ ap (λ (l : List ℕ). l ++ u ∷ []) l.held;
        few = omega arith;
        inside = omega (arith, length-set list t.count u);
        seated = m ∙ places_more us ids u t.seats j l.seated (sym (ap (number 64) (attached_find us p u j here)));
      });
      few = omega arith;
      behind = λ k a. get_or-set_other list t.count k u 0 (λ q. omega arith);
    }

-- ---- nobody is listed where the count is 0, and only there
module _ {us : Users} {ids list : List ℕ} {t : Leavers} (h : Leaves us ids list t) where
  pub leaves_none : t.count ≡ 0 → null ids ≡ true
  unfolding null
  leaves_none e = rw (← h.held, e) refl

  pub leaves_some : (t.count ≡ 0 → ⊥) → null ids ≡ false
  unfolding null
  leaves_some e = rw (← h.held) (go t.count list e h.inside)
    where
      go : (n : ℕ) (xs : List ℕ) → (n ≡ 0 → ⊥) → n ≤ length xs → null (take n xs) ≡ false
      go zero xs z k = absurd (z refl)
      go (suc n) [] z k = absurd (omega arith)
      go (suc n) (x ∷ xs) z k = refl
