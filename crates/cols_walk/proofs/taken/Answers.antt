-- The gap in the first mask, or in the second.
use Prim.Native.Nat.{◌+◌}
use Rattle.cols_spec.proofs.Gaps.{gap_more, gap_marked, gap_next}
use Rattle.cols_walk.proofs.taken.Goals as goal

pub returns-then-a-lt64 : goal.returns-then-a-lt64
returns-then-a-lt64 c =
    let a = c.args in
    gap_more 64 (gap_marked a.ids.now a.low c.marks.ensures c.gap-a.ensures) c.if-a-lt64.true

pub returns : goal.returns
returns c =
    let a = c.args in
    let ids = a.ids.now in
    gap_next ids a.low c.if-a-lt64.false
    (gap_marked ids a.low c.marks.ensures c.gap-a.ensures)
    (gap_marked ids (a.low + 64) c.marks-2.ensures c.gap.ensures)
