use Rattle.serve_token_rules.proofs.Deciding.{turned_fails, turned_turns}
use Rattle.serve_token_rules.proofs.turned.Goals as goal

pub returns-in-Ok : goal.returns-in-Ok
returns-in-Ok c =
    λ ts is. let a = c.args in
    turned_turns ts a.p a.u a.i a.k a.kind a.t c.in-Ok.after c.in-Ok.is c.from.ensures c.confirm.ensures

pub returns-in-Err : goal.returns-in-Err
returns-in-Err c =
    λ ts is. let a = c.args in
    turned_fails ts a.p a.u a.i a.k a.kind a.t a.h c.in-Err.why c.from-in-Err.result is c.in-Err.is c.from-in-Err.ensures c.confirm-in-Err.ensures
