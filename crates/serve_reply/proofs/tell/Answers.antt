use Rattle.serve_reply.proofs.Sending.{whole_full, whole_done}
use Rattle.serve_reply.proofs.tell.Goals as goal

pub returns-then-out-total : goal.returns-then-out-total
returns-then-out-total c = whole_full _ c.args.out.now _ c.told_size-total.ensures c.if-out-total.true

pub returns : goal.returns
returns c = whole_done _ c.args.out.now _ c.told_size-total.ensures c.if-out-total.false _ _ c.tell.ensures
