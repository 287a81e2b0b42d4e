-- Those who leave: a list of their ids in an array, and their places.
use Rattle.std.specs.Prelude.{ℕ, ◌+◌, ◌≤◌, ◌<◌, ◌≡◌, not, ◌&&◌, List, [], ◌∷◌, ◌++◌, length, get_or, take, if◌then◌else◌}
use Rattle.cols_spec.specs.Sets.{member}
use Rattle.cols_spec.specs.Places.{found}
use Rattle.domain.specs.Tables.{Users, attached}
use Rattle.domain.specs.Channels.{places}
use Rattle.serve_leave.specs.declared.Leavers.{Leavers}

-- the first ids of `list` are `ids`, as many as there are, and the mask has the places of their users
pub record Leaves (us : Users) (ids list : List ℕ) (t : Leavers) : Type 0 where
  pub held : take t.count list ≡ ids
  pub few : t.count ≤ 64
  pub inside : t.count ≤ length list
  pub seated : t.seats ≡ places us ids

-- `ids` with user u behind them, where u is attached on p and none of them
unfoldable pub with_leaver : (us : Users) (p : ℕ) (ids : List ℕ) (u : ℕ) → List ℕ
with_leaver us p ids u = ids ++ (if found (attached us p u) && not (member u ids) then u ∷ [] else [])

-- what is listed then: `list` and `t` become `after` and `r`. What stands further behind stays
pub record Adds (us : Users) (p u : ℕ) (list : List ℕ) (t : Leavers) (after : List ℕ) (r : Leavers) : Type 0 where
  pub grows : (ids : List ℕ) → Leaves us ids list t → Leaves us (with_leaver us p ids u) after r
  pub few : r.count ≤ t.count + 1
  pub behind : (j : ℕ) → t.count < j → get_or after j 0 ≡ get_or list j 0
