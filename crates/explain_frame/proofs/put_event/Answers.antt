-- `explain_frame::put_event` meets its contract, kind by kind. Assumes nothing.
use Rattle.explain_frame.proofs.FrameLaws.{event_is}
use Rattle.explain_frame.specs.Frames.{event_texts}
use Rattle.explain_frame.specs.Sent.{in_words}
use Rattle.trace_frames.specs.declared.Kind.TheVariants.{Open, Loss, Message}
use Rattle.explain_words.specs.Letters.{ascii}
use Rattle.trace_io.proofs.Saying.{says_then, says_as}
use borrow.Author.Rules.{rules}
use Rattle.explain_frame.proofs.put_event.Goals as goal

pub returns-in-Open : goal.returns-in-Open
unfolding ascii event_texts
returns-in-Open g c = says_as c.put_count.ensures (event_is c.args.kind Open c.args.connection c.args.message.now (search rules))

pub returns-in-Loss : goal.returns-in-Loss
unfolding ascii event_texts
returns-in-Loss g c = says_as c.put_count-in-Loss.ensures (event_is c.args.kind Loss c.args.connection c.args.message.now (search rules))

pub returns-in-Message : goal.returns-in-Message
unfolding ascii event_texts in_words
returns-in-Message g c = says_as (says_then c.put_count-in-Message.ensures (says_then c.say.ensures c.put_message.ensures)) (event_is c.args.kind Message c.args.connection c.args.message.now (search rules))
