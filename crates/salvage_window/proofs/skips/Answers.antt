-- `salvage_window::skips` meets its contract. The loop's invariant: the octets passed and those still to pass are all. Assumes nothing.
use Prim.Native.Nat.{suc, ◌+◌}
use mathlib.Core.Path.{◌≡◌, sym, ap, ◌∙◌}
use native.Mathlib.Omega.{arith}
use lib.ListN.{drop}
use Rattle.salvage.proofs.SpanLaws.{part_is}
use Rattle.salvage_window.specs.Windows.{stops, skips}
use Rattle.salvage_window.proofs.Turns.{skips_here, skips_on, skips_end}
use Rattle.salvage_window.proofs.skips.Goals as goal

pub returns-then-stops : goal.returns-then-stops
returns-then-stops c = let a = c.args in
    let w = a.w.now in
    let n = c.loop-n.n in
    let e : skips a.ended (drop n w) ≡ 0 = skips_here a.ended (drop n w) (ap (stops a.ended) (sym (part_is w n)) ∙ sym c.stops.ensures ∙ c.if-stops.true) in
    omega (arith, c.loop-n.invariant)

pub loop-n-preserved : goal.loop-n-preserved
loop-n-preserved c = let a = c.args in
    let w = a.w.now in
    let n = c.loop-n.n in
    let e : skips a.ended (drop n w) ≡ suc (skips a.ended (drop (n + 1) w)) = skips_on a.ended w n (omega arith) (ap (stops a.ended) (sym (part_is w n)) ∙ sym c.stops.ensures ∙ c.if-stops.false) in
    omega (arith, c.loop-n.invariant)

pub returns : goal.returns
returns c = omega (arith, c.loop-n.invariant, skips_end c.args.ended c.args.w.now c.loop-n.n (omega arith))
