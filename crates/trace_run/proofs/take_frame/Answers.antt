-- `trace_run::take_frame` meets its contract: a good frame lies in what is read. Assumes nothing.
use Rattle.std.proofs.Common.{sym}
use native.Mathlib.Omega.{arith}
use Rattle.trace_frames.proofs.Laws.{inside}
use Rattle.trace_run.proofs.take_frame.Goals as goal

pub slice_bounds-event-count : goal.slice_bounds-event-count
slice_bounds-event-count c = (inside _ _ _ _ _ (sym c.in-Good.ensures)).0

pub slice_bounds-event-start : goal.slice_bounds-event-start
slice_bounds-event-start c = (inside _ _ _ _ _ (sym c.in-Good.ensures)).0

pub slice_bounds-event-end : goal.slice_bounds-event-end
slice_bounds-event-end c = (inside _ _ _ _ _ (sym c.in-Good.ensures)).1

pub returns-in-Good : goal.returns-in-Good
returns-in-Good c = omega (arith, (inside _ _ _ _ _ (sym c.in-Good.ensures)).1)
