-- Records into a room, in one run or two: a long room is put into at once; a short one is counted for first, with no room lent. Assumes nothing.
use Rattle.std.specs.Prelude.{if◌then◌else◌}
use mathlib.Core.Path.{◌≡◌, refl, sym, ◌∙◌}
use mathlib.Core.Bool.{Bool, true, false, ◌&&◌, true≢false, false≢true}
use mathlib.Core.List.{List, [], ◌∷◌, ◌++◌, append-nil}
use Prim.Native.Nat.{ℕ, zero, suc, ◌+◌, ◌-◌, ◌≤◌, ◌<◌}
use native.Mathlib.Nat.{zero-add}
use native.Mathlib.Omega.{arith}
use borrow.Author.Tests.{leb-true, leb-false, ltb-true, ltb-false, le-ltb}
use lib.Dec.{leb, ltb}
use lib.ListN.{length, take, drop, length-append, length-drop}
use lib.Seq.{length-take-le, take-length, drop-length}
use Rattle.cols_spec.proofs.Bools.{and_parts}
use Rattle.out_records.specs.Out.{Puts}
use Rattle.out_records.proofs.Laying.{put_size}

-- what is said in the end: the octets `os` are put into `s` where there is room for them
pub record Said (s os t : List ℕ) (n : ℕ) : Type 0 where
  pub size : n ≡ length os
  pub put : n ≤ length s → Puts s 0 os t n
  pub unsaid : length s < n → t ≡ s

-- before a run nothing is put yet, and the room lent is none, or all of one that is long enough; after the last all is said
pub record Saying (s os t : List ℕ) (to n : ℕ) (again : Bool) : Type 0 where
  pub still : again ≡ true → t ≡ s
  pub enough : again ≡ true → (to ≡ 0 → ⊥) → (to ≡ length s) × (length os ≤ length s)
  pub said : again ≡ false → Said s os t n

empty : (xs : List ℕ) → length xs ≡ 0 → xs ≡ []
empty [] e = refl
empty (x ∷ xs) e = absurd (omega arith)

-- ---- the runs that are left, at most
abbrev pub runs : (again : Bool) (to room : ℕ) → ℕ
runs again to room = (if again then 1 else 0) + (room - to)

pub fewer : (again fits : Bool) (to room : ℕ) → again ≡ true → to ≤ room → runs (ltb to room && fits) room room < runs again to room
fewer again fits to room e h = rw e (go (ltb to room) refl fits)
  where
    go : (b : Bool) → ltb to room ≡ b → (c : Bool) → runs (b && c) room room < runs true to room
    go true q true = omega (arith, ltb-true to room q)
    go true q false = omega arith
    go false q c = omega arith

-- the room stays as long as it is
pub run_size : (part t : List ℕ) (to : ℕ) → to ≤ length t → length part ≡ length (take to t) → length (part ++ drop to t) ≡ length t
run_size part t to h e = omega (arith, length-append part (drop to t), length-take-le to t h, length-drop to t)

-- ---- before the first run
pub say_start : (most : ℕ) (s os : List ℕ) (to : ℕ) → (to ≤ length s) × (length s < most → to ≡ 0) × (most ≤ length s → to ≡ length s) → length os ≤ most → Saying s os s to 0 true
say_start most s os to h few = record { still = λ e. refl; enough = λ e z. go (leb most (length s)) refl z; said = λ e. absurd (true≢false e) }
  where
    go : (b : Bool) → leb most (length s) ≡ b → (to ≡ 0 → ⊥) → (to ≡ length s) × (length os ≤ length s)
    go true q z = (h.2 (leb-true most (length s) q), omega (arith, leb-true most (length s) q))
    go false q z = absurd (z (h.1 (leb-false most (length s) q)))

-- ---- one run
-- nothing fits into no room but nothing
nought : (n room : ℕ) → (ltb 0 room && leb n room) ≡ false → n ≤ room → n ≡ 0
nought n room e h = go (ltb 0 room) refl (leb n room) refl e
  where
    go : (b : Bool) → ltb 0 room ≡ b → (c : Bool) → leb n room ≡ c → (b && c) ≡ false → n ≡ 0
    go true q true r z = absurd (true≢false z)
    go true q false r z = absurd (omega (arith, leb-false n room r))
    go false q c r z = omega (arith, ltb-false 0 room q)

module _ (s os part : List ℕ) (n : ℕ) where
  -- with no room lent, which tells the size
  counted : Puts [] 0 os part n → Saying s os (part ++ s) (length s) n (ltb 0 (length s) && leb n (length s))
  counted p =
      let size : n ≡ length os = p.next ∙ zero-add (length os) in
      let same : part ++ s ≡ s = rw (empty part (put_size p)) refl in
      record {
        still = λ e. same;
        enough = λ e z. (refl, omega (arith, leb-true n (length s) (and_parts (ltb 0 (length s)) (leb n (length s)) e).1));
        said = λ e. record {
          size = size;
          put = λ h. record { laid = same ∙ rw (empty os (sym size ∙ nought n (length s) e h)) refl; next = p.next };
          unsaid = λ h. same;
        };
      }

  -- with all of it
  whole : Puts s 0 os part n → length os ≤ length s → Saying s os part (length s) n false
  whole p h = record {
    still = λ e. absurd (false≢true e);
    enough = λ e. absurd (false≢true e);
    said = λ e. record { size = p.next ∙ zero-add (length os); put = λ k. p; unsaid = λ k. absurd (omega (arith, p.next)) };
  }

  pub say_turn : {t : List ℕ} {to k : ℕ} {again : Bool} → Saying s os t to k again → again ≡ true → Puts (take to t) 0 os part n
      → Saying s os (part ++ drop to t) (length s) n (ltb to (length s) && leb n (length s))
  say_turn {t} {to} {k} {again} w e p = rw (w.still e) (go to (w.enough e) (rw (w.still e) at p))
    where
      go : (m : ℕ) → ((m ≡ 0 → ⊥) → (m ≡ length s) × (length os ≤ length s)) → Puts (take m s) 0 os part n
          → Saying s os (part ++ drop m s) (length s) n (ltb m (length s) && leb n (length s))
      go zero f q = counted q
      go (suc m) f q =
          let r = f (λ z. omega arith) in
          rw (r.0, drop-length s, append-nil part, le-ltb (length s) (length s) (omega arith)) (whole (rw (r.0, take-length s) at q) r.1)
