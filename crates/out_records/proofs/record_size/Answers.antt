use mathlib.Core.Path.{sym, ap, ◌∙◌}
use Rattle.out_records.specs.Records.{record_of}
use Rattle.out_records.proofs.Laying.{framed_length, guarded_all, guarded_none}
use lib.ListN.{length}
use Rattle.out_records.proofs.record_size.Goals as goal

pub returns-then-allowed : goal.returns-then-allowed
returns-then-allowed c = λ q. let m = c.args.m.now in
    sym (ap length (guarded_all c.allowed.result 0 m (record_of m q) c.allowed.ensures c.if-allowed.true) ∙ framed_length m q)

pub returns : goal.returns
returns c = λ q. let m = c.args.m.now in
    sym (ap length (guarded_none c.allowed.result 0 m (record_of m q) c.allowed.ensures c.if-allowed.false))
