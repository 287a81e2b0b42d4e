use mathlib.Core.Path.{refl}
use native.Mathlib.Omega.{arith}
use Rattle.cols_spec.proofs.Firsts.{least_le, take_count, take_least}
use borrow.Author.Rules.{rules}
use Rattle.serve_leave_records.proofs.put_first.Goals as goal

pub slice_bounds-put_parting-end : goal.slice_bounds-put_parting-end
slice_bounds-put_parting-end c = take_count _ _ _ (search rules) (least_le _ _ _ c.min-n.ensures)

pub put_parting-requires : goal.put_parting-requires
put_parting-requires c = let le = least_le _ _ _ c.min-n.ensures in
    omega (arith, take_count c.args.list.now _ _ refl le)

pub returns : goal.returns
returns c = let a = c.args in
    rw (← take_least a.list.now a.count _ _ (search rules) c.min-n.ensures) c.put_parting.ensures
