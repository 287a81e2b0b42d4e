-- Nothing is told where no token is being given.
use native.Mathlib.Omega.{arith}
use Rattle.out_records.proofs.Telling.{put_nobody}
use Rattle.domain_tables.specs.Held.{users_in}
use Rattle.serve_leave_records.proofs.Quiet.{returns_none}
use Rattle.serve_leave_records.proofs.put_any_returns.Goals as goal

pub returns : goal.returns
returns c =
    let a = c.args in
    let ts = a.tokens.now in
    (rw (returns_none (users_in a.users.now) ts.ids ts.states ts.values a.gone (c.any_is.ensures c.if-any_is.false)) (put_nobody a.out.now a.from), omega arith)
