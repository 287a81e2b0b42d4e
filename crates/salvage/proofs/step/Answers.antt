-- `salvage::step` meets its contract: a good frame is kept, anything else is cut. Assumes nothing.
use mathlib.Core.Path.{sym}
use native.Mathlib.Omega.{arith}
use Rattle.trace_frames.proofs.Good.{size_of_none, size_of_some}
use Rattle.salvage.proofs.StepLaws.{size_is, size_inside, gap_is, gap_inside, takes_cut, takes_kept}
use Rattle.salvage.proofs.step.Goals as goal

pub overflow_add-next : goal.overflow_add-next
overflow_add-next c =
    let a = c.args in
    let u = c.until-gap in
    omega (arith, gap_inside a.trace.now a.p.at (omega arith) u.result u.ensures)

pub returns-in-None : goal.returns-in-None
returns-in-None c =
    let a = c.args in
    let u = c.until-gap in
    takes_cut a.trace.now a.p c.requires a.out.now a.list.now u.result
    (sym (size_is a.trace.now a.p.at (omega arith) 0 (sym (size_of_none _ c.in-None.ensures))))
    (gap_is a.trace.now a.p.at (omega arith) u.result u.ensures)
    c.put_cut.ensures

pub overflow_add-end : goal.overflow_add-end
overflow_add-end c =
    let a = c.args in
    let g = c.in-Some in
    omega (arith, size_inside a.trace.now a.p.at (omega arith) g.size (size_of_some _ _ g.ensures).0)

pub slice_bounds-put_frame-end : goal.slice_bounds-put_frame-end
slice_bounds-put_frame-end c =
    let a = c.args in
    let g = c.in-Some in
    omega (arith, size_inside a.trace.now a.p.at (omega arith) g.size (size_of_some _ _ g.ensures).0)

pub overflow_add-kept : goal.overflow_add-kept
overflow_add-kept c =
    let a = c.args in
    let g = c.in-Some in
    omega (arith, size_inside a.trace.now a.p.at (omega arith) g.size (size_of_some _ _ g.ensures).0)

pub returns-in-Some : goal.returns-in-Some
returns-in-Some c =
    let a = c.args in
    let g = c.in-Some in
    takes_kept a.trace.now a.p c.requires a.out.now a.list.now g.size
    (size_is a.trace.now a.p.at (omega arith) g.size (size_of_some _ _ g.ensures).0)
    (size_of_some _ _ g.ensures).1
    c.put_frame.ensures
