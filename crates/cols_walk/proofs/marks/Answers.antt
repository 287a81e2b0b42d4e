-- The places passed are marked, eight at a time.
use Prim.Native.Nat.{◌+◌, ◌-◌}
use mathlib.Core.Path.{ap₂, ◌∙◌}
use native.Mathlib.Omega.{arith}
use lib.Bits.{bit_or}
use lib.ListN.{length}
use Rattle.cols_spec.proofs.Gaps.{marked_none, marked_part, marked_end}
use borrow.Author.Rules.{rules}
use Rattle.cols_walk.proofs.marks.Goals as goal

pub loop-i-init : goal.loop-i-init
loop-i-init c = (search rules, marked_none c.args.low)

pub marks_of_eight-m-requires : goal.marks_of_eight-m-requires
marks_of_eight-m-requires c = (omega arith, search rules)

pub loop-i-smaller : goal.loop-i-smaller
loop-i-smaller c = omega arith

pub loop-i-preserved : goal.loop-i-preserved
loop-i-preserved c =
    let b = c.loop-i in
    let a = c.args in
    (omega arith, ap₂ bit_or b.invariant.1 c.marks_of_eight-m.ensures ∙ marked_part a.low a.ids.now b.i 8)

pub returns : goal.returns
returns c =
    let b = c.loop-i in
    let a = c.args in
    let ids = a.ids.now in
    ap₂ bit_or b.invariant.1 c.marks_of.ensures
    ∙ marked_part a.low ids b.i (length ids - b.i)
    ∙ marked_end a.low ids (b.i + (length ids - b.i)) (omega arith)
