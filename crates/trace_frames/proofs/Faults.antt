-- The claims of specs/Fault. Assumes nothing.
use Rattle.std.specs.Prelude.{Option, Some, None}
use Prim.Native.Nat.{ℕ, ◌≤◌, ◌<◌}
use mathlib.Core.Path.{◌≡◌, refl}
use mathlib.Core.Logic.{◌≢◌, ◌⊎◌, inl, inr, ⊎_elim}
use mathlib.Core.Bool.{Bool, true, false, ◌||◌, cond}
use mathlib.Core.List.{List, ◌++◌}
use native.Mathlib.Omega.{arith}
use borrow.Author.Tests.{ltb-true, ltb-false, leb-true, leb-false, eqb-true, eqb-false, le-ltb, le-leb}
use lib.Dec.{leb, ltb, eqb}
use lib.ListN.{length, length-append, get_or-append}
use Rattle.trace_frames.specs.declared.fault.Fault.{Fault}
use Rattle.trace_frames.specs.declared.fault.Fault.TheVariants.{Length, Version, Kind, Octets, CutOff}
use Rattle.trace_frames.specs.Frames.{length_of, size_of, version_of, kind_of}
use Rattle.trace_frames.specs.Claims.{Breaks, no_length, length_below_3, octets_missing, other_version, other_kind, octets_behind}
use Rattle.trace_frames.specs.Good.{good_size}
use Rattle.trace_frames.specs.Fault.{fault_behind, fault_inside, fault_of, Told, FaultThere, NothingExactly, FaultStays}
use Rattle.trace_frames.proofs.Good.{broken, keeping, size_says}

-- what holds of both answers of a test holds of the answer
by : (P : Option Fault → Type 0) (t : Bool) (a b : Option Fault) → (t ≡ true → P a) → (t ≡ false → P b) → P (cond t a b)
by P true a b f g = f refl
by P false a b f g = g refl

either : (a b : Bool) → (a || b) ≡ true → (a ≡ true) ⊎ (b ≡ true)
either true b e = inl refl
either false b e = inr e

neither : (a b : Bool) → (a || b) ≡ false → (a ≡ false) × (b ≡ false)
neither true b e = absurd (let z : ◌≡◌ {A = ℕ} 0 1 = cc in omega arith)
neither false b e = (refl, e)

module _ (s : List ℕ) where
  behind_there : 3 ≤ length_of s → version_of s ≡ 1 → kind_of s ≤ 2 → Told s (fault_behind s)
  behind_there l v k =
      by (Told s) (eqb (kind_of s) 2 || leb (length_of s) 3) _ _
      (λ a. by (Told s) (leb (size_of s) (length s)) _ _ (λ b. good a (leb-true (size_of s) (length s) b)) (λ b. inr (leb-false (size_of s) (length s) b)))
      (λ a. let n = neither (eqb (kind_of s) 2) (leb (length_of s) 3) a in (eqb-false (kind_of s) 2 n.0, leb-false (length_of s) 3 n.1))
    where
      good : (eqb (kind_of s) 2 || leb (length_of s) 3) ≡ true → size_of s ≤ length s → 0 < good_size s
      good a b =
          omega (
            arith,
            keeping s
                (record {
                  whole = b;
                  long = omega arith;
                  version = v;
                  kind = k;
                  bare =
                      ⊎_elim (λ e. inl (eqb-true (kind_of s) 2 e)) (λ e. inr (omega (arith, leb-true (length_of s) 3 e))) (either (eqb (kind_of s) 2) (leb (length_of s) 3) a);
                }),
          )

  inside_there : 3 ≤ length_of s → Told s (fault_inside s)
  inside_there l =
      by (Told s) (ltb (length s) 3) _ _
      (λ a. inr (omega (arith, ltb-true (length s) 3 a)))
      (λ a. by (Told s) (eqb (version_of s) 1) _ _
      (λ b. by (Told s) (ltb (length s) 4) _ _
      (λ c. inr (omega (arith, ltb-true (length s) 4 c)))
      (λ c. by (Told s) (leb (kind_of s) 2) _ _
      (λ d. behind_there l (eqb-true (version_of s) 1 b) (leb-true (kind_of s) 2 d))
      (λ d. leb-false (kind_of s) 2 d)))
      (λ b. eqb-false (version_of s) 1 b))

pub there : FaultThere
unfolding fault_of
there s =
    by (Told s) (ltb (length s) 2) _ _
    (λ a. inl (ltb-true (length s) 2 a))
    (λ a. by (Told s) (ltb (length_of s) 3) _ _ (λ b. ltb-true (length_of s) 3 b) (λ b. inside_there s (ltb-false (length_of s) 3 b)))

-- a fault that is told is a rule that is broken
pub breaks : (s : List ℕ) (f : Option Fault) → Told s f → f ≢ None → Breaks s
breaks s (Some Length) t n = length_below_3 t
breaks s (Some Version) t n = other_version t
breaks s (Some Kind) t n = other_kind t
breaks s (Some Octets) t n = octets_behind t.0 t.1
breaks s (Some CutOff) t n = ⊎_elim (λ h. no_length h) (λ h. octets_missing h) t
breaks s None t n = absurd (n refl)

told_nothing : (s : List ℕ) (f : Option Fault) → 0 < good_size s → Told s f → f ≡ None
told_nothing s (Some Length) g t = absurd (omega (arith, broken s (length_below_3 t)))
told_nothing s (Some Version) g t = absurd (omega (arith, broken s (other_version t)))
told_nothing s (Some Kind) g t = absurd (omega (arith, broken s (other_kind t)))
told_nothing s (Some Octets) g t = absurd (omega (arith, broken s (octets_behind t.0 t.1)))
told_nothing s (Some CutOff) g t = absurd (omega (arith, broken s (⊎_elim (λ h. no_length h) (λ h. octets_missing h) t)))
told_nothing s None g t = refl

pub nothing : NothingExactly
nothing s = (λ e. rw e at (there s), λ g. told_nothing s (fault_of s) g (there s))

pub stays_fault : FaultStays
unfolding fault_of
stays_fault w more low h =
    let both : length (w ++ more) ≡ _ = length-append w more in
    simp (
      le-ltb (length (w ++ more)) 2 (omega arith),
      le-ltb (length w) 2 (omega arith),
      le-ltb (length (w ++ more)) 3 (omega arith),
      le-ltb (length w) 3 (omega arith),
      le-ltb (length (w ++ more)) 4 (omega arith),
      le-ltb (length w) 4 (omega arith),
      get_or-append w more 0 0 (omega arith),
      get_or-append w more 0 1 (omega arith),
      get_or-append w more 0 2 (omega arith),
      get_or-append w more 0 3 (omega arith),
      le-leb (size_of w) (length (w ++ more)) (omega (arith, size_says w low)),
      le-leb (size_of w) (length w) (omega (arith, size_says w low)),
    )
