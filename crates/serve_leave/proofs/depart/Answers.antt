-- Nobody listed is on the connection, or those who are leave; or all of the connection.
use Prim.Native.Nat.{◌%◌}
use lib.ListN.{take}
use Rattle.domain_tables.specs.Held.{domain_in}
use Rattle.serve_leave.proofs.LeaverLaws.{leaves_none, leaves_some}
use Rattle.serve_leave.proofs.SettleLaws.{closing, detach_nobody, detach_some}
use Rattle.serve_leave.proofs.depart.Goals as goal
use Rattle.serve_leave.proofs.depart.Goals.{in-Closes, in-Detaches+else-who-eq0}

pub returns-then-who-eq0 : goal.returns-then-who-eq0
returns-then-who-eq0 c = let a = c.args in
    rw c.in-Detaches.is (detach_nobody (domain_in a.d.now) a.p (take a.count a.list.now) a.out.now (c.in-Detaches.reason % 8) (leaves_none c.listed_on-who.ensures c.if-who-eq0.true))

pub returns : goal.returns
returns c = let a = c.args in
    let d = domain_in a.d.now in
    elim c.match-departure.branch [
      | in-Closes w ↦ rw w.in-Closes.is (closing d a.p (take a.count a.list.now) a.out.now c.leave.ensures w.list-is w.live-is w.all_on-who.ensures w.without.ensures w.from.ensures)
      | in-Detaches+else-who-eq0 w ↦ rw w.in-Detaches.is (detach_some d a.p (take a.count a.list.now) a.out.now (w.in-Detaches.reason % 8) c.leave.ensures w.list-is w.live-is w.listed_on-who.ensures
          (leaves_some w.listed_on-who.ensures w.if-who-eq0.false))
    ]
