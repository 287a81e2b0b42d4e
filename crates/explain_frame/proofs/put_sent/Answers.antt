-- `explain_frame::put_sent` meets its contract. Assumes nothing.
use Rattle.explain_frame.proofs.SentLaws.{sent_none, sent_some}
use Rattle.trace_io.proofs.Saying.{says_none, says_as}
use lib.Seq.{length-take-le}
use mathlib.Core.Path.{sym}
use Prim.Native.Nat.{◌%◌}
use Rattle.explain_frame.proofs.put_sent.Goals as goal

pub returns-then-room-k : goal.returns-then-room-k
returns-then-room-k g c = says_as says_none (sent_none c.args.sent c.args.room.now c.if-room-k.true)

pub slice_bounds-put_records-end : goal.slice_bounds-put_records-end
slice_bounds-put_records-end g c = sym (length-take-le (c.args.sent % 65536) c.args.room.now c.if-room-k.false)

pub returns : goal.returns
returns g c = says_as c.put_records.ensures (sent_some c.args.sent c.args.room.now c.if-room-k.false)
