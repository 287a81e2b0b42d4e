-- There is no room, or the records are put and the tables are stored.
use Prim.Native.Nat.{◌≤◌}
use native.Mathlib.Omega.{arith}
use lib.ListN.{length}
use Rattle.domain_tables.specs.Held.{domain_in}
use Rattle.serve_leave.proofs.SettleLaws.{leave_full, leave_done}
use Rattle.serve_leave.proofs.leave.Goals as goal

pub returns-then-is_short : goal.returns-then-is_short
returns-then-is_short c =
    let a = c.args in
    let s = c.say-total in λ p us h.
    rw (s.ensures.2 (omega arith)) (leave_full (domain_in a.d.now) a.live a.reason a.out.now p us a.list.now a.who h s.result s.ensures.0 (omega arith))

pub returns : goal.returns
returns c =
    let a = c.args in
    let s = c.say-total in
    let fits : s.result ≤ length a.out.now = omega (arith, c.if-is_short.false) in λ p us h.
    leave_done (domain_in a.d.now) a.live a.reason a.out.now p us a.list.now a.who h
    s.result c.leave-2.ensures.sized fits _ _ _ _ c.leave-2.ensures.left c.leave.ensures c.leave-3.ensures (s.ensures.1 fits)
