-- The ids in the row are there, and those of the gap behind it.
use Prim.Native.Nat.{◌-◌}
use mathlib.Core.Path.{◌≡◌}
use native.Mathlib.Omega.{arith}
use lib.ListN.{length, take, drop, length-drop}
use lib.Seq.{take_all}
use Rattle.cols_spec.proofs.Gaps.{gap_found, gap_cut, unused_gap}
use Rattle.cols_walk.proofs.unused.Goals as goal

pub returns : goal.returns
returns c =
    let ids = c.args.ids.now in
    let row = c.in_row-h in
    let h = row.result in
    let e : take (length ids - h) (drop h ids) ≡ drop h ids = take_all (length ids - h) (drop h ids) (omega (arith, length-drop h ids)) in
    unused_gap 128 ids 1001 c.min.result (gap_cut 128 (omega arith) c.min.ensures (gap_found ids 1000 h row.ensures.2 (rw e at c.taken.ensures)))
