use native.Mathlib.Omega.{arith}
use borrow.Author.Rules.{rules}
use Rattle.cols_spec.specs.Swept.{anywhere}
use Rattle.cols_spec.proofs.Sweeps.{sweeps_start, sweeps_next, sweeps_step}
use Rattle.domain.specs.Cells.{no_channel}
use Rattle.domain.specs.Channels.{left}
use Rattle.domain_tables.specs.Held.{cells_in}
use Rattle.domain_tables.proofs.ChannelSweeps.{channel_count, channels_swept}
use Rattle.serve_channels.proofs.leave_all.Goals as goal

pub loop-j-init : goal.loop-j-init
loop-j-init c =
    let a = c.args in
    let f = left a.p a.listed.now in
    (search rules, (sweeps_next no_channel (anywhere f) (sweeps_start no_channel (anywhere f) 128 a.channels.now.ids (cells_in a.channels.now a.members.now) (search rules) (channel_count 128 _ _ _ _ (search rules) (search rules) (search rules) (search rules))) _ c.used_from-j.ensures).1)

pub loop-j-smaller : goal.loop-j-smaller
loop-j-smaller c =
    let a = c.args in
    let f = left a.p a.listed.now in
    omega (arith, (sweeps_step no_channel (anywhere f) c.loop-j.invariant.1 (search rules) c.leave_at.ensures _ c.used_from-j-in-loop-j.ensures).0)

pub loop-j-preserved : goal.loop-j-preserved
loop-j-preserved c =
    let a = c.args in
    let f = left a.p a.listed.now in
    (c.loop-j.invariant.0, (sweeps_step no_channel (anywhere f) c.loop-j.invariant.1 (search rules) c.leave_at.ensures _ c.used_from-j-in-loop-j.ensures).1)

pub returns : goal.returns
returns c =
    let a = c.args in
    let f = left a.p a.listed.now in
    channels_swept f _ _ _ _ _ _ _ _ _ _ _ c.loop-j.invariant.1 (search rules)
