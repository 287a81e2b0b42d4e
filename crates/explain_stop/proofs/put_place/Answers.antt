-- `explain_stop::put_place` meets its contract. Assumes nothing.
use Rattle.explain_stop.specs.StopLine.{place_texts}
use Rattle.explain_words.specs.Letters.{ascii}
use Rattle.trace_io.proofs.Saying.{says_then}
use Rattle.explain_stop.proofs.put_place.Goals as goal

pub returns : goal.returns
unfolding ascii place_texts
returns g c = says_then c.say.ensures (says_then c.say_number.ensures (says_then c.say-2.ensures c.say_number-2.ensures))
