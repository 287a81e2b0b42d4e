-- Nothing is told where no channel is private.
use native.Mathlib.Omega.{arith}
use Rattle.out_records.proofs.Telling.{put_nobody}
use Rattle.domain_tables.specs.Held.{users_in}
use Rattle.serve_leave_records.proofs.Quiet.{ends_none}
use Rattle.serve_leave_records.proofs.put_any_ends.Goals as goal

pub returns : goal.returns
returns c =
    let a = c.args in
    let cs = a.channels.now in
    let ms = a.members.now in
    let none = ends_none (users_in a.users.now) cs.ids cs.kinds cs.managers ms.admitted ms.joined a.gone a.live (c.any_is.ensures c.if-any_is.false) in
    (rw none (put_nobody a.out.now a.from), omega arith)
