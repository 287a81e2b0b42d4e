-- `salvaged::sweep::advance` is safe: a turn takes no octet that is not in the window. Assumes nothing.
use native.Mathlib.Omega.{arith}
use Rattle.salvage_window.proofs.Answers.{inside}
use Rattle.salvaged.proofs.sweep.advance.Goals as goal

pub slice_bounds-keep-end : goal.slice_bounds-keep-end
slice_bounds-keep-end g c = let r = c.args.run in
    omega (arith, inside r.span.ended c.window-w.result.now r.stand.cutting c.turn_over-t.result c.turn_over-t.ensures)
