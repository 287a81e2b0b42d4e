-- What the octets of a window decide holds whatever follows it. Assumes nothing.
use Prim.Native.Nat.{ℕ, zero, suc, ◌+◌, ◌-◌, ◌*◌, ◌≤◌}
use mathlib.Core.Path.{◌≡◌, refl, ap, ◌∙◌}
use mathlib.Core.Bool.{Bool, true, false, ◌||◌}
use mathlib.Core.List.{List, [], ◌∷◌, ◌++◌, append-nil}
use native.Mathlib.Omega.{arith}
use borrow.Author.Tests.{leb-true, ne_eqb}
use lib.Dec.{leb}
use lib.ListN.{length, drop, length-append, length-drop}
use lib.Seq.{get_or-drop, drop-append-le}
use Rattle.trace_frames.specs.Claims.{OctetsBelow256}
use Rattle.trace_frames.specs.Good.{good_size, longest}
use Rattle.trace_frames.specs.Fault.{fault_of}
use Rattle.trace_frames.proofs.Good.{within, most, stays_good}
use Rattle.trace_frames.proofs.Faults.{stays_fault}
use Rattle.salvage.specs.Spans.{begins, resumes}
use Rattle.salvage_window.specs.Windows.{decided}

-- ---- octets below 256 in a part
pub low_drop : (n : ℕ) (s : List ℕ) → OctetsBelow256 s → OctetsBelow256 (drop n s)
low_drop n s low i = rw (get_or-drop n s i 0) (low (n + i))

pub low_front : (w more : List ℕ) → OctetsBelow256 (w ++ more) → OctetsBelow256 w
low_front [] more low zero = omega arith
low_front [] more low (suc i) = omega arith
low_front (o ∷ w) more low zero = low zero
low_front (o ∷ w) more low (suc i) = low_front w more (λ j. low (suc j)) i

-- ---- where nothing follows, or there are octets enough
module _ (w more : List ℕ) (low : OctetsBelow256 w) where
  resumes_long : 2 * longest ≤ length w → resumes (w ++ more) ≡ resumes w
  unfolding resumes begins
  resumes_long h =
      let g : good_size (w ++ more) ≡ good_size w = stays_good w more low (omega arith) in
      let v = drop (good_size w) w in
      let l : length v ≡ length w - good_size w = length-drop (good_size w) w in
      let n : longest ≤ length v = omega (arith, most w low) in
      let b : good_size (v ++ more) ≡ good_size v = stays_good v more (low_drop (good_size w) w low) n in
      simp (
        g,
        drop-append-le (good_size w) w more (within w),
        b,
        ne_eqb (length (v ++ more)) 0 (λ e. omega (arith, length-append v more)),
        ne_eqb (length v) 0 (λ e. omega arith),
      )

  module _ (ended : Bool) (last : ended ≡ true → more ≡ []) where
    all : ended ≡ true → w ++ more ≡ w
    all e = ap (λ m. w ++ m) (last e) ∙ append-nil w

    by : {A : Type 0} (f : List ℕ → A) (need : ℕ) → decided ended need (length w) ≡ true → (need ≤ length w → f (w ++ more) ≡ f w) → f (w ++ more) ≡ f w
    by f need d h = go ended refl d
      where
        go : (t : Bool) → ended ≡ t → (t || leb need (length w)) ≡ true → f (w ++ more) ≡ f w
        go true e d = ap f (all e)
        go false e d = h (leb-true need (length w) d)

    pub size_decided : decided ended longest (length w) ≡ true → good_size (w ++ more) ≡ good_size w
    size_decided d = by good_size longest d (stays_good w more low)

    pub fault_decided : decided ended longest (length w) ≡ true → fault_of (w ++ more) ≡ fault_of w
    fault_decided d = by fault_of longest d (stays_fault w more low)

    pub resumes_decided : decided ended (2 * longest) (length w) ≡ true → resumes (w ++ more) ≡ resumes w
    resumes_decided d = by resumes (2 * longest) d resumes_long
