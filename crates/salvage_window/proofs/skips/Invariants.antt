-- `salvage_window::skips` meets its contract. The loop's invariant: the octets passed and those still to pass are all. Assumes nothing.
use Prim.Native.Nat.{◌+◌}
use mathlib.Core.Path.{◌≡◌}
use lib.ListN.{drop}
use Rattle.salvage_window.specs.Windows.{skips}
use Rattle.salvage_window.proofs.skips.Given as goal

abbrev pub invariant-loop-n : goal.invariant-loop-n
invariant-loop-n l = l.n + skips l.ended (drop l.n l.w) ≡ skips l.ended l.w
