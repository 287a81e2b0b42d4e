-- `explain_frame::put_reply` meets its contract. Assumes nothing.
use Rattle.explain_frame.specs.Frames.{reply_texts}
use Rattle.explain_words.specs.Letters.{ascii}
use Rattle.trace_io.proofs.Saying.{says_then}
use Rattle.explain_frame.proofs.put_reply.Goals as goal

pub returns : goal.returns
unfolding ascii reply_texts
returns g c = says_then c.put_count.ensures (says_then c.say.ensures (says_then c.say_named.ensures (says_then c.put_count-2.ensures (says_then c.put_counts.ensures c.say-2.ensures))))
