-- `trace_io::lines::lay` meets its contract. The loop's invariant: what is left to lay from here is all of the text from the start. Assumes nothing.
use Prim.Native.Nat.{◌+◌, ◌-◌, ◌≤◌}
use mathlib.Core.Path.{◌≡◌}
use lib.ListN.{length, drop}
use lib.Seq.{sets}
use Rattle.trace_io.proofs.lines.lay.Given as goal

abbrev pub invariant-loop-i : goal.invariant-loop-i
invariant-loop-i l = (l.i ≤ length l.text) × (length l.out ≡ length l.initial.out) × (sets l.out (l.at + l.i) (drop l.i l.text) ≡ sets l.initial.out l.at l.text)

abbrev pub decreases-loop-i : goal.decreases-loop-i
decreases-loop-i l = length l.text - l.i
