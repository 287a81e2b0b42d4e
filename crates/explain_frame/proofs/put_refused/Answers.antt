-- `explain_frame::put_refused` meets its contract, by the reply. Assumes nothing.
use Rattle.explain_frame.proofs.FrameLaws.{tells_plain, tells_as, tells_then, refused_low, refused_high, refused_five, refused_eight, refused_other}
use Rattle.explain_frame.specs.Frames.{refused_texts}
use Rattle.trace_io.proofs.Saying.{says_none}
use Rattle.explain_frame.proofs.put_refused.Goals.{then-reply-eq5-via-then-reply-eq5, then-reply-eq5-via-else-reply-eq5+then-reply-eq8}
use Rattle.explain_frame.proofs.put_refused.Goals as goal

pub returns-then-reply-lt4 : goal.returns-then-reply-lt4
returns-then-reply-lt4 g c = let a = c.args in tells_plain a.message.now (refused_texts a.reply a.message.now) says_none (refused_low a.reply a.message.now c.if-reply-lt4.true)

pub returns-then-reply-gt8 : goal.returns-then-reply-gt8
returns-then-reply-gt8 g c = let a = c.args in tells_plain a.message.now (refused_texts a.reply a.message.now) says_none (refused_high a.reply a.message.now c.if-reply-gt8.true)

pub returns-then-reply-eq5 : goal.returns-then-reply-eq5
returns-then-reply-eq5 g c =
    let a = c.args in
    let told = tells_then {x = c.put_octets_line.new.lines} c.put_octets_line.ensures c.put_stop.ensures in
    elim c.then-reply-eq5.branch [
      | then-reply-eq5-via-then-reply-eq5 w ↦ tells_as told (refused_five a.reply a.message.now c.if-reply-lt4.false c.if-reply-gt8.false w.if-reply-eq5.true)
      | then-reply-eq5-via-else-reply-eq5+then-reply-eq8 w ↦ tells_as told (refused_eight a.reply a.message.now c.if-reply-lt4.false c.if-reply-gt8.false w.if-reply-eq8.true)
    ]

pub returns-else-reply-eq8 : goal.returns-else-reply-eq8
returns-else-reply-eq8 g c = let a = c.args in tells_plain a.message.now (refused_texts a.reply a.message.now) c.put_octets_line.ensures (refused_other a.reply a.message.now c.if-reply-lt4.false c.if-reply-gt8.false c.if-reply-eq5.false c.if-reply-eq8.false)
