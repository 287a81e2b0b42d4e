-- `explain_words::words::say_word` meets its contract: what stands before the dots of a row is the word; that the table has the rows of the words is computed.
-- Assumes nothing.
use Rattle.explain_words.proofs.WordLaws.{word_of_row}
use Rattle.explain_words.specs.Letters.{ascii}
use Rattle.explain_words.specs.Words.{words, padded, rows_of, rows}
use Rattle.trace_io.proofs.Saying.{says_as}
use lib.Seq.{length-take-le}
use mathlib.Core.List.{[], ◌∷◌}
use mathlib.Core.Path.{sym, ap}
use Rattle.explain_words.proofs.words.say_word.Goals as goal

pub slice_bounds-say-end : goal.slice_bounds-say-end
slice_bounds-say-end g c = sym (length-take-le c.size_of-k.result _ c.size_of-k.ensures.inside)

pub returns : goal.returns
unfolding rows rows_of words padded ascii
returns g c =
    let start = c.start_of-from in
    let size = c.size_of-k in
    says_as c.say.ensures (ap (λ l. l ∷ []) (word_of_row c.args.n start.result size.result start.ensures.1 size.ensures))
