-- `explain_tokens::put_table` meets its contract. Assumes nothing.
use Rattle.explain_tokens.specs.Holders.{table_texts}
use Rattle.explain_words.specs.Letters.{ascii}
use Rattle.trace_io.proofs.Saying.{says_then, says_as}
use Rattle.trace_io.specs.Lines.{decimal}
use mathlib.Core.List.{[], ◌∷◌}
use mathlib.Core.Path.{ap}
use Rattle.explain_tokens.proofs.put_table.Goals as goal

pub returns : goal.returns
unfolding ascii table_texts
returns g c = says_then c.say.ensures (says_then (says_as c.say_number.ensures (ap (λ n. decimal n ∷ []) c.used.ensures)) (says_then c.say-2.ensures c.put_tokens.ensures))
