-- The channels that end, by marks of their ids.
use Rattle.std.specs.Prelude.{ℕ, ◌+◌, ◌≤◌, ◌<◌, ◌≡◌, Bool, true, false, ◌&&◌, ◌||◌, List, eqb, ltb, Option, Some, None, if◌then◌else◌}
use Rattle.cols_spec.specs.Sets.{any, member, ids_above}
use Rattle.serve_leave_records.specs.declared.Ending.{Ending}

-- an id, other than those from 1001 to 1128
abbrev pub other : ℕ → Bool
other c = ltb 0 c && (ltb c 1001 || ltb 1128 c)

-- the ids of a list as marks: 1001 to 1064, 1065 to 1128, and whether there is any other
pub record Marks (xs : List ℕ) (e : Ending) : Type 0 where
  pub low_are : e.low ≡ ids_above 1000 xs
  pub high_are : e.high ≡ ids_above 1064 xs
  pub others : e.beyond ≡ any other xs

-- a mark among 128, as a number; 128 where there is none
abbrev pub mark_number : Option ℕ → ℕ
mark_number (Some r) = r
mark_number None = 128

-- 1001 + r is the first id of a list from 1001 + `from` on; there is none where there is none up to 1128
pub record NextMark (xs : List ℕ) (from : ℕ) (m : Option ℕ) : Type 0 where
  pub passed : (k : ℕ) → from ≤ k → k < mark_number m → member (1001 + k) xs ≡ false
  pub here : (r : ℕ) → m ≡ Some r → (from ≤ r) × (member (1001 + r) xs ≡ true)

-- an id, or none, which a search answers by 0
abbrev pub id_or_none : ℕ → Option ℕ
id_or_none x = if eqb x 0 then None else Some x
