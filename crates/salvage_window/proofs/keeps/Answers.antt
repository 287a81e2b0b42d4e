-- `salvage_window::keeps` meets its contract. The loop's invariant: the octets of the frames passed and of those still to pass are all. Assumes nothing.
use Prim.Native.Nat.{◌+◌}
use mathlib.Core.Path.{◌≡◌, sym, ap, ◌∙◌}
use native.Mathlib.Omega.{arith}
use lib.ListN.{drop}
use lib.Seq.{drop-drop}
use Rattle.trace_frames.proofs.Good.{size_of_some, size_of_none}
use Rattle.salvage_window.specs.Windows.{sure, keeps}
use Rattle.salvage_window.proofs.Turns.{sure_here, sure_inside, keeps_stop, keeps_on}
use Rattle.salvage_window.proofs.keeps.Goals as goal

pub loop-size-init : goal.loop-size-init
loop-size-init c = (omega arith, omega arith)

pub overflow_add-n : goal.overflow_add-n
overflow_add-n c = let a = c.args in
    let n = c.loop-size.n in
    let g = size_of_some _ _ c.in-Some.ensures in
    omega (arith, sure_inside a.ended a.w.now n c.in-Some.size (omega arith) g.0)

pub loop-size-smaller : goal.loop-size-smaller
loop-size-smaller c = let a = c.args in
    let n = c.loop-size.n in
    let g = size_of_some _ _ c.in-Some.ensures in
    omega (arith, sure_inside a.ended a.w.now n c.in-Some.size (omega arith) g.0)

pub loop-size-preserved : goal.loop-size-preserved
loop-size-preserved c = let a = c.args in
    let w = a.w.now in
    let n = c.loop-size.n in
    let s = c.in-Some.size in
    let g = size_of_some _ _ c.in-Some.ensures in
    let r : s ≡ sure a.ended (drop n w) = sure_here a.ended w n s (omega arith) g.0 in
    let e : keeps a.ended (drop n w) ≡ s + keeps a.ended (drop (n + s) w) =
    keeps_on a.ended (drop n w) (omega arith)
    ∙ ap (λ k. k + keeps a.ended (drop k (drop n w))) (sym r)
    ∙ ap (λ l. s + keeps a.ended l) (drop-drop s n w) in
    (sure_inside a.ended w n s (omega arith) g.0, omega (arith, c.loop-size.invariant.1))

pub returns : goal.returns
returns c = let a = c.args in
    let w = a.w.now in
    let n = c.loop-size.n in
    let none : 0 ≡ sure a.ended (drop n w) = sure_here a.ended w n 0 (omega arith) (sym (size_of_none _ c.in_default.ensures)) in
    let stop : keeps a.ended (drop n w) ≡ 0 = keeps_stop a.ended (drop n w) (sym none) in
    omega (arith, c.loop-size.invariant.1)
