-- What is claimed of a trace that is salvaged window by window, whatever the windows are. proofs/Sweeping and proofs/Answers have the proofs.
use Rattle.std.specs.Prelude.{None, ℕ, ◌+◌, ◌-◌, ◌*◌, ◌≤◌, ◌<◌, ◌≡◌, ◌≢◌, ◌⊎◌, Bool, true, false, ◌&&◌, not, cond, List, [], ◌++◌, ltb, length, take, drop}
use Rattle.trace_frames.specs.Claims.{OctetsBelow256}
use Rattle.trace_frames.specs.Good.{longest}
use Rattle.trace_frames.specs.Fault.{fault_of}
use Rattle.salvage.specs.Answer.{entry, output, cut_list}
use Rattle.salvage_window.specs.declared.Turn.{Turn}
use Rattle.salvage_window.specs.Windows.{decided, turn_of}

-- a turn takes no octet that is not in the window
abbrev pub TurnWithin : Type 0
TurnWithin = (ended : Bool) (w : List ℕ) (cutting : Bool) → (turn_of ended w cutting).octets ≤ length w

-- how far a trace is salvaged: the octets passed, whether a cut is open and where it starts, the octets kept and the list of the cuts so far
pub record Place : Type 0 where
  pub at : ℕ
  pub cutting : Bool
  pub from : ℕ
  pub out : List ℕ
  pub list : List ℕ

-- nothing is passed yet
abbrev pub begun : Place
begun = record { at = 0; cutting = false; from = 0; out = []; list = [] }

-- where a turn over the window w leads: what it keeps is put out, and a cut that ends is listed
abbrev pub after : Place → List ℕ → Turn → Place
after p w t =
    record {
      at = p.at + t.octets;
      cutting = t.cutting;
      from = cond p.cutting p.from p.at;
      out = cond t.kept (p.out ++ take t.octets w) p.out;
      list = cond (p.cutting && not t.cutting) (p.list ++ entry p.from (p.at + t.octets - p.from)) p.list;
    }

-- w stands in s from a place on, with more behind it; where w is said to be the last, nothing is
pub record Window (s : List ℕ) (p : Place) (w more : List ℕ) (ended : Bool) : Type 0 where
  pub stands : drop p.at s ≡ w ++ more
  pub last : ended ≡ true → more ≡ []

-- any number of turns, over any windows
pub data Sweeps (s : List ℕ) : Place → Type 0 where
  start : Sweeps s begun
  next : (p : Place) (w more : List ℕ) (ended : Bool) → Sweeps s p → Window s p w more ended → Sweeps s (after p w (turn_of ended w p.cutting))

-- a sweep that has come to the end has written what `salvage` writes, whatever the windows were
abbrev pub SweepSalvages : Type 0
SweepSalvages = (s : List ℕ) (p : Place) → OctetsBelow256 s → Sweeps s p → length s ≤ p.at → p.cutting ≡ false
    → (p.out ≡ output s) × (p.list ≡ cut_list s)

-- the window is the last, or as long as two frames can be
abbrev pub Enough : Bool → List ℕ → Type 0
Enough ended w = decided ended (2 * longest) (length w) ≡ true

-- no turn over such a window is idle, where an octet or an open cut is left: it passes an octet, or opens a cut, or ends one
abbrev pub NoIdle : Type 0
NoIdle = (ended : Bool) (w : List ℕ) (cutting : Bool) → Enough ended w → (0 < length w) ⊎ (cutting ≡ true)
    → (0 < (turn_of ended w cutting).octets) ⊎ ((turn_of ended w cutting).cutting ≡ not cutting)

-- what is left to do: three turns for an octet at most, as an octet may end a cut and open the next
abbrev pub left : List ℕ → Place → ℕ
left s p = 3 * (length s - p.at) + cond p.cutting (cond (ltb p.from p.at) 2 0) 1

-- and every turn leaves less, so that a sweep over such windows comes to the end
abbrev pub SweepEnds : Type 0
SweepEnds = (s : List ℕ) (p : Place) (w more : List ℕ) (ended : Bool) → OctetsBelow256 s → Sweeps s p → Window s p w more ended
    → Enough ended w
    → (p.at < length s) ⊎ (p.cutting ≡ true)
    → left s (after p w (turn_of ended w p.cutting)) < left s p

-- where a cut opens, the fault at the front of the window is a fault, and that of all the trace from there on
abbrev pub FaultTold : Type 0
FaultTold = (s : List ℕ) (p : Place) (w more : List ℕ) (ended : Bool) → OctetsBelow256 s → Window s p w more ended
    → p.cutting ≡ false
    → (turn_of ended w p.cutting).cutting ≡ true
    → (fault_of w ≡ fault_of (drop p.at s)) × (fault_of w ≢ None)
