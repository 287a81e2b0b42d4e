use native.Mathlib.Omega.{arith}
use Rattle.out_records.proofs.Laying.{put_allowed, put_refused, allowed_parts}
use Rattle.out_records.proofs.send.Goals as goal

pub lay_record-requires : goal.lay_record-requires
lay_record-requires c = let ok = allowed_parts _ _ _ c.allowed.ensures c.if-allowed.true in
    (omega arith, ok.1)

pub returns-then-allowed : goal.returns-then-allowed
returns-then-allowed c = put_allowed _ _ _ _ _ c.allowed.ensures c.if-allowed.true c.lay_record.ensures

pub returns : goal.returns
returns c = put_refused _ _ _ _ _ c.allowed.ensures c.if-allowed.false
