-- `salvage_window::keeps` meets its contract. The loop's invariant: the octets of the frames passed and of those still to pass are all. Assumes nothing.
use Prim.Native.Nat.{◌+◌, ◌-◌, ◌≤◌}
use mathlib.Core.Path.{◌≡◌}
use lib.ListN.{length, drop}
use Rattle.salvage_window.specs.Windows.{keeps}
use Rattle.salvage_window.proofs.keeps.Given as goal

abbrev pub invariant-loop-size : goal.invariant-loop-size
invariant-loop-size l = (l.n ≤ length l.w) × (l.n + keeps l.ended (drop l.n l.w) ≡ keeps l.ended l.w)

abbrev pub decreases-loop-size : goal.decreases-loop-size
decreases-loop-size l = length l.w - l.n
