use borrow.Author.Rules.{rules}
use Rattle.serve_reply.proofs.Sending.{confirmed}
use Rattle.serve_reply.proofs.confirms.convene.Goals as goal

pub returns-in-Ok : goal.returns-in-Ok
returns-in-Ok c = rw c.in-Ok.is (confirmed _ _ _ c.convene_confirm.ensures (search rules) c.confirm.ensures)

pub returns-in-Err : goal.returns-in-Err
returns-in-Err c = rw c.in-Err.is (confirmed _ _ _ (rw c.from.ensures at c.convene_refusal.ensures) (search rules) c.confirm-in-Err.ensures)
