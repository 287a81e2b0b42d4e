-- `trace_io::input::to_front` meets its contract. The loop's invariant: the first i octets are moved, and nothing else has changed. Assumes nothing.
use Prim.Native.Nat.{◌-◌, ◌≤◌}
use mathlib.Core.Path.{◌≡◌}
use lib.ListN.{length}
use Rattle.trace_io.proofs.Moves.{moved}
use Rattle.trace_io.proofs.input.to_front.Given as goal

abbrev pub invariant-loop-i : goal.invariant-loop-i
invariant-loop-i l = (l.i ≤ l.n) × (length l.buf ≡ length l.initial.buf) × (l.buf ≡ moved l.initial.buf l.from l.i)

abbrev pub decreases-loop-i : goal.decreases-loop-i
decreases-loop-i l = l.n - l.i
