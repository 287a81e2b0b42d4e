-- `explain_stop::put_stop` meets its contract: the line is that of the stop that is found. Assumes nothing.
use Rattle.explain_stop.specs.StopLine.{part_text, stop_texts}
use Rattle.explain_words.specs.Letters.{ascii}
use Rattle.explain_words.specs.Words.{word, placed, why_words}
use Rattle.trace_io.proofs.Saying.{says_then, says_as}
use mathlib.Core.List.{[], ◌∷◌}
use mathlib.Core.Path.{ap}
use Rattle.explain_stop.proofs.put_stop.Goals as goal

pub returns : goal.returns
unfolding ascii stop_texts
returns g c =
    let s = c.where_stopped-s.result in
    let part = says_as c.put_part.ensures (ap (λ n. part_text n s.part ∷ []) c.number_of.ensures) in
    let why = says_as c.say_named.ensures (ap (λ n. word (placed why_words 11 n) ∷ []) c.place_of.ensures) in
    record {
      stop = s;
      refusal = c.where_stopped-s.ensures;
      says = says_then c.put_place.ensures (says_then c.say.ensures (says_then part (says_then c.say-2.ensures (says_then why c.say-3.ensures))));
    }
