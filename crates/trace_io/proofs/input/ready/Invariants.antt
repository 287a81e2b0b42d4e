-- `trace_io::input::ready` meets its contract: each turn brings an octet more, or the input has ended. Assumes nothing.
use mathlib.Core.Path.{◌≡◌}
use lib.ListN.{length}
use Rattle.trace_io.proofs.Moves.{Since, to_come}
use Rattle.trace_io.proofs.input.ready.Given as goal

abbrev pub invariant-loop-input : goal.invariant-loop-input
invariant-loop-input g l = (length l.buf ≡ length l.initial.buf) × Since l.initial.buf l.initial.span l.buf l.span

abbrev pub decreases-loop-input : goal.decreases-loop-input
decreases-loop-input g l = to_come (length l.buf) l.span
