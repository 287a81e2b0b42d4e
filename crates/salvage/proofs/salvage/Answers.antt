-- `salvage::salvage` meets its contract. Assumes nothing.
use native.Mathlib.Omega.{arith}
use Rattle.salvage.proofs.RoomLaws.{no_room_kept, no_room_cuts, filled}
use Rattle.salvage.proofs.salvage.Goals as goal

pub returns-then-out-need : goal.returns-then-out-need
returns-then-out-need c =
    let a = c.args in
    let n = c.measure-need in
    no_room_kept a.trace.now a.out.now a.list.now n.result n.ensures (omega arith)

pub returns-then-list-need : goal.returns-then-list-need
returns-then-list-need c =
    let a = c.args in
    let n = c.measure-need in
    no_room_cuts a.trace.now a.out.now a.list.now n.result n.ensures (omega arith)

pub returns : goal.returns
returns c =
    let a = c.args in
    let n = c.measure-need in
    let p = c.pass in
    filled a.trace.now a.out.now a.list.now n.result n.ensures _ _ p.result (omega arith) (omega arith) p.ensures
