-- `explain_tokens::put_token` meets its contract. Assumes nothing.
use mathlib.Core.List.{[], ◌∷◌}
use mathlib.Core.Path.{ap}
use Rattle.explain_tokens.specs.Holders.{token_texts}
use Rattle.explain_words.specs.Letters.{ascii}
use Rattle.trace_io.specs.Lines.{decimal}
use Rattle.trace_io.proofs.Saying.{says_then, says_as}
use Rattle.explain_tokens.proofs.put_token.Goals as goal

pub returns : goal.returns
unfolding ascii token_texts
returns g c = says_then (says_then c.say.ensures (says_then (says_as c.say_number.ensures (ap (λ n. decimal n ∷ []) c.from.ensures)) (says_then c.say-2.ensures c.put_holding.ensures))) c.say-3.ensures
