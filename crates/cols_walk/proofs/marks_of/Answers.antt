-- The places passed are marked.
use mathlib.Core.Path.{ap₂, ◌∙◌}
use native.Mathlib.Numerals.{add-one}
use lib.Bits.{bit_or}
use Rattle.cols_spec.proofs.Gaps.{marked_none, marked_one, marked_end}
use borrow.Author.Rules.{rules}
use Rattle.cols_walk.proofs.marks_of.Goals as goal

pub loop-x-init : goal.loop-x-init
loop-x-init c = (search rules, marked_none c.args.low)

pub loop-x-preserved : goal.loop-x-preserved
loop-x-preserved c =
    let b = c.loop-x in
    let a = c.args in
    (search rules, rw add-one (ap₂ bit_or b.invariant.1 (c.mark-m.ensures (search rules)) ∙ marked_one a.low a.ids.now b.x-index (search rules)))

pub returns : goal.returns
returns c = c.loop-x.invariant.1 ∙ marked_end c.args.low c.args.ids.now c.loop-x.x-index (search rules)
