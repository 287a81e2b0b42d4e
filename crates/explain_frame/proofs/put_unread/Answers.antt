-- `explain_frame::put_unread` meets its contract, by the reply and the kind. Assumes nothing.
use Rattle.explain_frame.proofs.FrameLaws.{tells_plain, tells_as, wrong_open, wrong_stray, stray_read, stray_unread}
use Rattle.explain_frame.specs.Frames.{stray_texts, wrong_texts}
use Rattle.trace_frames.specs.declared.Kind.TheVariants.{Open, Loss, Message}
use Rattle.trace_io.proofs.Saying.{says_none, says_as}
use borrow.Author.Rules.{rules}
use Rattle.explain_frame.proofs.put_unread.Goals as goal

pub returns-then-reply-ne2 : goal.returns-then-reply-ne2
returns-then-reply-ne2 g c = let a = c.args in tells_as c.put_refused.ensures (wrong_open a.reply a.message.now c.if-reply-ne2.true a.kind)

pub returns-in-None : goal.returns-in-None
returns-in-None g c = let a = c.args in tells_plain a.message.now (wrong_texts a.reply a.kind a.message.now) (says_as says_none (stray_read a.message.now c.where_stopped-s.result.refusal c.where_stopped-s.ensures c.in-None.is)) (wrong_stray a.reply a.message.now c.if-reply-ne2.false a.kind Message (search rules))

pub returns-in-Open : goal.returns-in-Open
unfolding stray_texts
returns-in-Open g c = let a = c.args in tells_plain a.message.now (wrong_texts a.reply a.kind a.message.now) says_none (wrong_stray a.reply a.message.now c.if-reply-ne2.false a.kind Open (search rules))

pub returns-in-Loss : goal.returns-in-Loss
unfolding stray_texts
returns-in-Loss g c = let a = c.args in tells_plain a.message.now (wrong_texts a.reply a.kind a.message.now) says_none (wrong_stray a.reply a.message.now c.if-reply-ne2.false a.kind Loss (search rules))

pub returns-in-Some : goal.returns-in-Some
returns-in-Some g c = let a = c.args in tells_plain a.message.now (wrong_texts a.reply a.kind a.message.now) (says_as c.put_octets_line.ensures (stray_unread a.message.now c.where_stopped-s.result.refusal _ c.where_stopped-s.ensures c.in-Some.is)) (wrong_stray a.reply a.message.now c.if-reply-ne2.false a.kind Message (search rules))
