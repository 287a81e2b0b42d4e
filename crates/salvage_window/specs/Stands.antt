-- Where a sweep stands, in numbers of 64 bits, for a program that keeps no more of it.
use Rattle.std.specs.Prelude.{ℕ, ◌+◌, ◌-◌, ◌^◌, ◌<◌, ◌≡◌, true, false, cond, List, ◌++◌, leb}
use Rattle.salvage.specs.Answer.{entry}
use Rattle.salvage_window.specs.declared.Turn.{Turn}
use Rattle.salvage_window.specs.declared.Stand.{Stand}
use Rattle.salvage_window.specs.Claims.{Place, after}

-- a number, or the most that 64 bits hold
abbrev pub capped : ℕ → ℕ
capped n = cond (leb n 18446744073709551615) n 18446744073709551615

-- where a turn leads
abbrev pub stood : Stand → Turn → Stand
stood p t = record { at = capped (p.at + t.octets); cutting = t.cutting; from = cond p.cutting p.from p.at }

-- the numbers are those of a place of the sweep
pub record At (p : Stand) (q : Place) : Type 0 where
  pub at : p.at ≡ q.at
  pub cutting : p.cutting ≡ q.cutting
  pub from : p.from ≡ q.from

-- they stay so, below 2 ^ 64 octets
abbrev pub StandFollows : Type 0
StandFollows = (p : Stand) (q : Place) (w : List ℕ) (t : Turn) → At p q → q.at + t.octets < 2 ^ 64 → At (stood p t) (after q w t)

-- and where a turn ends a cut, they are the entry that is listed
abbrev pub EntryStands : Type 0
EntryStands = (p : Stand) (q : Place) (w : List ℕ) (t : Turn) → At p q → q.at + t.octets < 2 ^ 64
    → q.cutting ≡ true
    → t.cutting ≡ false
    → (after q w t).list ≡ q.list ++ entry (stood p t).from ((stood p t).at - (stood p t).from)
