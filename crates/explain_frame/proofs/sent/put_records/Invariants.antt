-- `explain_frame::sent::put_records` meets its contract: the records are told one behind the other. Assumes nothing.
use Rattle.explain_frame.proofs.SentLaws.{Sending}
use Prim.Native.Nat.{◌-◌}
use lib.ListN.{length}
use Rattle.explain_frame.proofs.sent.put_records.Given as goal

abbrev pub invariant-loop-size : goal.invariant-loop-size
invariant-loop-size g l = Sending l.records l.initial.lines l.lines l.from l.size

abbrev pub decreases-loop-size : goal.decreases-loop-size
decreases-loop-size g l = length l.records - l.from
