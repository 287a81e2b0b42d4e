use native.Mathlib.Omega.{arith}
use Rattle.out_records.proofs.Laying.{put_rest, guarded_in, framed_length}
use Rattle.out_records.proofs.lay_record.Goals as goal

pub overflow_add-result : goal.overflow_add-result
overflow_add-result c = omega (arith, (rw (guarded_in 0 c.args.m.now _ (omega arith) c.requires.1) at c.put_record.ensures).next, framed_length c.args.m.now c.args.q)

pub returns : goal.returns
returns c = put_rest _ _ _ _ _ _ c.min-from.ensures (rw (guarded_in 0 c.args.m.now _ (omega arith) c.requires.1) at c.put_record.ensures)
