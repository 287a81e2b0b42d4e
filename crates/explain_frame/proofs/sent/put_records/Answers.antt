-- `explain_frame::sent::put_records` meets its contract: the records are told one behind the other. Assumes nothing.
use borrow.Author.Rules.{rules}
use Rattle.explain_frame.proofs.SentLaws.{sending_start, sending_more, sending_whole, sending_end}
use Rattle.explain_frame.proofs.sent.put_records.Goals as goal

pub loop-size-init : goal.loop-size-init
loop-size-init g c = sending_start c.size_at-size.result c.size_at-size.ensures

pub put_record-requires : goal.put_record-requires
put_record-requires g c = let whole = sending_whole c.loop-size.invariant c.loop-size-test.true in search (rules, whole)

pub loop-size-preserved : goal.loop-size-preserved
loop-size-preserved g c = sending_more c.size_at-size-in-loop-size.result c.loop-size.invariant c.loop-size-test.true c.size_at-size-in-loop-size.ensures c.put_record.ensures

pub returns : goal.returns
returns g c = sending_end c.loop-size.invariant c.loop-size-test.false
