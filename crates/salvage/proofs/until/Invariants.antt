-- `salvage::until` meets its contract. The loop's invariant: the octets passed and those still to pass are all. Assumes nothing.
use Prim.Native.Nat.{◌+◌}
use mathlib.Core.Path.{◌≡◌}
use lib.ListN.{drop}
use Rattle.salvage.specs.Spans.{until}
use Rattle.salvage.proofs.until.Given as goal

abbrev pub invariant-loop-n : goal.invariant-loop-n
invariant-loop-n l = l.n + until (drop l.n l.s) ≡ until l.s
