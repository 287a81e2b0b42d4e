use borrow.Author.Rules.{rules}
use native.Mathlib.Omega.{arith}
use Rattle.out_records.proofs.Laying.{onward_start, onward_step, onward_end, ids_on, ids_done}
use Rattle.out_records.proofs.lay_ids.Goals as goal

pub loop-id-init : goal.loop-id-init
loop-id-init c = (search rules, onward_start _ _ _)

pub loop-id-preserved : goal.loop-id-preserved
loop-id-preserved c = let b = c.loop-id in
    let a = c.args in (
      omega (arith, (rw c.id_octets.ensures at c.lay-at.ensures).next),
      onward_step _ _ b.invariant.1 (ids_on a.low a.ids.now b.id-index (search rules)) (rw c.id_octets.ensures at c.lay-at.ensures),
    )

pub shape_of-s : goal.shape_of-s
shape_of-s c = c.loop-id.invariant.1.size

pub returns : goal.returns
returns c = onward_end c.loop-id.invariant.1 (ids_done c.args.low c.args.ids.now c.loop-id.id-index (search rules))
