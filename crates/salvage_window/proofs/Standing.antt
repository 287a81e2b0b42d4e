-- The claims of specs/Stands. Assumes nothing.
use Prim.Native.Nat.{ℕ, ◌+◌, ◌≤◌, ◌<◌, min}
use mathlib.Core.Path.{◌≡◌, refl, ap, ◌∙◌}
use mathlib.Core.Bool.{Bool, true, false}
use native.Mathlib.Omega.{arith}
use lib.Dec.{leb}
use borrow.Author.Tests.{le-leb, lt-leb, leb-true, leb-false}
use Rattle.salvage_window.specs.Stands.{capped, StandFollows, EntryStands}

pub capped_is : (n : ℕ) → n ≤ 18446744073709551615 → capped n ≡ n
capped_is n h = simp (le-leb n 18446744073709551615 h)

pub capped_most : (n : ℕ) → 18446744073709551615 < n → capped n ≡ 18446744073709551615
capped_most n h = simp (lt-leb n 18446744073709551615 h)

-- the library's sum, which stays at the most
pub capped_min : (n : ℕ) → min n 18446744073709551615 ≡ capped n
capped_min n = go (leb n 18446744073709551615) refl
  where
    go : (t : Bool) → leb n 18446744073709551615 ≡ t → min n 18446744073709551615 ≡ capped n
    go true e = let k : n ≤ 18446744073709551615 = leb-true n 18446744073709551615 e in omega (arith, capped_is n k)
    go false e = let k : 18446744073709551615 < n = leb-false n 18446744073709551615 e in omega (arith, capped_most n k)

pub follows : StandFollows
follows p q w t a h =
    record {
      at = capped_is (p.at + t.octets) (omega (arith, a.at)) ∙ ap (λ n. n + t.octets) a.at;
      cutting = refl;
      from = rw (a.cutting, a.from, a.at) refl;
    }

pub entered : EntryStands
entered p q w t a h c e =
    let f = follows p q w t a h in
    let k : p.cutting ≡ true = a.cutting ∙ c in
    rw (f.at, c, e, k, a.from) refl
