-- `explain_frame::put_frame` meets its contract: the texts stand one behind the other. Assumes nothing.
use Rattle.explain_frame.proofs.FrameLaws.{tells_as, tells_then, tells_more}
use Rattle.explain_frame.specs.Frames.{frame_texts}
use Rattle.explain_words.specs.Letters.{ascii}
use mathlib.Core.Path.{refl}
use Rattle.explain_frame.proofs.put_frame.Goals as goal

pub returns : goal.returns
unfolding ascii frame_texts
returns g c =
    let told = tells_more {y = c.put_changes.new.lines} (tells_more {y = c.put_sent.new.lines} (tells_more {y = c.put_reply.new.lines} (tells_then {x = c.put_count.new.lines} c.put_count.ensures c.put_front.ensures) c.put_reply.ensures) c.put_sent.ensures) c.put_changes.ensures.0 in
    (tells_as told (λ _. refl), c.put_changes.ensures.1)
