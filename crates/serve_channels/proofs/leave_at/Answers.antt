use mathlib.Core.Path.{sym, ◌∙◌}
use Rattle.cols_spec.specs.Swept.{anywhere}
use Rattle.cols_spec.proofs.Sweeps.{turn_free, turn_keeps}
use Rattle.domain.specs.Cells.{no_channel}
use Rattle.domain.specs.Channels.{left}
use Rattle.domain_tables.proofs.ChannelSweeps.{channel_ends, channel_stays}
use Rattle.serve_channels.proofs.Parting.{left_other, left_ends, left_stays}
use Rattle.serve_channels.proofs.leave_at.Goals as goal

pub returns-then-c-eq0 : goal.returns-then-c-eq0
returns-then-c-eq0 c = let a = c.args in turn_free no_channel (anywhere (left a.p a.listed.now)) _ _ _ c.if-c-eq0.true

pub returns-then-ends : goal.returns-then-ends
returns-then-ends c =
    let a = c.args in
    let s = a.channels.now in
    let m = a.members.now in
    channel_ends (left a.p a.listed.now) a.j s.ids s.kinds s.managers m.admitted m.joined _ _ _ _ _ c.if-c-eq0.false
    (left_ends a.p a.listed.now _ _ (sym c.member.ensures ∙ c.if-member.true) c.at-ch.result c.at-ch.ensures c.without-left.result c.without-left.ensures c.ends.result c.ends.ensures c.if-ends.true)
    c.end.ensures

pub returns-else-ends : goal.returns-else-ends
returns-else-ends c =
    let a = c.args in
    let s = a.channels.now in
    let m = a.members.now in
    rw c.put.ensures.ids (channel_stays (left a.p a.listed.now) a.j s.ids s.kinds s.managers m.admitted m.joined s.ids _ _ _ _ c.if-c-eq0.false _
    (left_stays a.p a.listed.now _ _ (sym c.member.ensures ∙ c.if-member.true) c.at-ch.result c.at-ch.ensures c.without-left.result c.without-left.ensures c.ends.result c.ends.ensures c.if-ends.false)
    c.put.ensures.cells)

pub returns-else-member : goal.returns-else-member
returns-else-member c =
    let a = c.args in
    turn_keeps no_channel (anywhere (left a.p a.listed.now)) _ _ _ c.if-c-eq0.false (left_other a.p a.listed.now _ _ (sym c.member.ensures ∙ c.if-member.false))
