-- Those of the ids read who leave are listed in front of the ids that are still to be read.
use mathlib.Core.Path.{◌≡◌, refl, ◌∙◌}
use native.Mathlib.Omega.{arith}
use borrow.Author.Rules.{rules}
use Rattle.cols_spec.proofs.Firsts.{least_le, take_least}
use Rattle.serve_leave.proofs.Picking.{pick_start, pick_turn}
use Rattle.serve_leave.proofs.listed_on.Goals as goal

pub loop-i-init : goal.loop-i-init
loop-i-init c = record { size = search rules; picked = pick_start _ _ _ }

pub add_leaver-t-requires : goal.add_leaver-t-requires
add_leaver-t-requires c = omega (arith, c.loop-i.invariant.picked.before, least_le _ _ _ c.min-i-end.ensures)

pub loop-i-preserved : goal.loop-i-preserved
loop-i-preserved c = let b = c.loop-i.invariant in
    record { size = b.size; picked = pick_turn b.picked (omega (arith, least_le _ _ _ c.min-i-end.ensures)) refl c.add_leaver-t.ensures }

pub returns : goal.returns
returns c = let a = c.args in
    let b = c.loop-i in
    let e : b.i ≡ c.min-i-end.result = omega arith in
    rw (← take_least a.list.now a.count _ b.i (search rules) (e ∙ c.min-i-end.ensures)) b.invariant.picked.leaves
