-- `explain_frame::put_good` meets its contract. Assumes nothing.
use Rattle.explain_frame.proofs.FrameLaws.{tells_as, tells_then}
use Rattle.explain_frame.specs.Frames.{good_texts}
use Rattle.explain_words.specs.Letters.{ascii}
use mathlib.Core.Path.{refl}
use Rattle.explain_frame.proofs.put_good.Goals as goal

pub returns : goal.returns
unfolding ascii good_texts
returns g c = tells_as (tells_then {x = c.put_event.new.lines} c.put_event.ensures (tells_then {x = c.say.new.self} c.say.ensures c.put_unread.ensures)) (λ _. refl)
