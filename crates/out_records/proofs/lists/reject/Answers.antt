use native.Mathlib.Omega.{arith}
use Rattle.out_records.proofs.Laying.{put_then}
use Rattle.out_records.proofs.Wire.{first_few, first_length, wire_reject}
use borrow.Author.Rules.{rules}
use Rattle.out_records.proofs.lists.reject.Goals as goal

pub slice_bounds-lay-end-2 : goal.slice_bounds-lay-end-2
slice_bounds-lay-end-2 c = first_length c.args.m.now _ c.min-n.ensures

pub lay-requires : goal.lay-requires
lay-requires c = let a = c.args.m.now in
    (search rules, omega (arith, first_length a _ c.min-n.ensures, first_few a _ c.min-n.ensures))

pub returns : goal.returns
returns c = let a = c.args in
    rw (wire_reject a.m.now _ c.min-n.ensures a.diagnostic (search rules)) (put_then c.lay-at.ensures c.lay.ensures)
