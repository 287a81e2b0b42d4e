-- The loop goes from one place in use to the next. Its channel ends, or stays with what is left of it.
use Prim.Native.Nat.{◌+◌}
use native.Mathlib.Omega.{arith}
use borrow.Author.Rules.{rules}
use Rattle.cols_spec.specs.Swept.{Turns, anywhere}
use Rattle.cols_spec.proofs.Busy.{busy_is}
use Rattle.cols_spec.proofs.Sweeps.{sweeps_next, sweeps_step}
use Rattle.domain.specs.Cells.{no_channel}
use Rattle.domain_tables.specs.Held.{cells_in, users_in}
use Rattle.domain_tables.proofs.ChannelSweeps.{channels_swept}
use Rattle.serve_leave_tables.specs.Fates.{fate_by}
use Rattle.serve_leave_tables.proofs.ChannelLaws.{channels_start, place_ends, place_stays}
use Rattle.serve_leave_tables.proofs.channels.leave.Goals as goal
use Rattle.serve_leave_tables.proofs.channels.leave.Goals.{then-ends, else-ends}

pub loop-j-init : goal.loop-j-init
loop-j-init c = let a = c.args in
    let cs = a.channels.now in
    let ms = a.members.now in
    let f = fate_by (users_in a.users.now) a.list.now a.gone a.live in
    record {
      in_use = λ h. (busy_is cs.ids 0 _ c.used_from-j.ensures).in_use (omega arith);
      swept = (sweeps_next no_channel (anywhere f) (channels_start f cs.ids cs.kinds cs.managers ms.admitted ms.joined (search rules) (search rules) (search rules) (search rules) (search rules)) _ c.used_from-j.ensures).1;
    }

pub loop-j-smaller : goal.loop-j-smaller
loop-j-smaller c = omega (arith, (busy_is c.if-ends.channels.ids (c.loop-j.j + 1) _ c.used_from-j-in-loop-j.ensures).behind (omega arith))

pub loop-j-preserved : goal.loop-j-preserved
loop-j-preserved c = let a = c.args in
    let b = c.loop-j in
    let cs = b.channels in
    let ms = b.members in
    let us = users_in a.users.now in
    let f = fate_by us a.list.now a.gone a.live in
    let turn : Turns no_channel (anywhere f) b.j cs.ids (cells_in cs ms) c.if-ends.channels.ids (cells_in c.if-ends.channels c.if-ends.members) = elim c.if-ends.branch [
      | then-ends w ↦ rw (w.channels-is, w.members-is) (place_ends us a.list.now a.gone a.live b.j cs.ids cs.kinds cs.managers ms.admitted ms.joined (λ e. omega (arith, b.invariant.in_use))
          (omega arith) (omega arith) (omega arith) (omega arith) _ c.meet-m.ensures _ _ c.is_listed-listed.ensures c.ends.ensures _ _ _ _ _ w.if-ends.true w.end.ensures)
      | else-ends w ↦ rw (w.channels-is, w.members-is) (place_stays us a.list.now a.gone a.live b.j cs.ids cs.kinds cs.managers ms.admitted ms.joined (λ e. omega (arith, b.invariant.in_use))
          (omega arith) (omega arith) (omega arith) (omega arith) _ c.meet-m.ensures _ _ c.is_listed-listed.ensures c.ends.ensures _ _ w.if-ends.false (w.stay.ensures.admitted, w.stay.ensures.joined))
    ] in
    record {
      in_use = λ h. (busy_is c.if-ends.channels.ids _ _ c.used_from-j-in-loop-j.ensures).in_use (omega arith);
      swept = (sweeps_step no_channel (anywhere f) b.invariant.swept (search rules) turn _ c.used_from-j-in-loop-j.ensures).1;
    }

pub returns : goal.returns
returns c = let a = c.args in
    let f = fate_by (users_in a.users.now) a.list.now a.gone a.live in
    channels_swept f _ _ _ _ _ _ _ _ _ _ _ c.loop-j.invariant.swept (search rules)
