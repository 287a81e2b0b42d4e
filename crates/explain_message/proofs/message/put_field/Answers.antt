-- `explain_message::message::put_field` meets its contract. Assumes nothing.
use Rattle.explain_message.specs.Messages.{value_text, field_texts}
use Rattle.explain_words.specs.Words.{word}
use Rattle.explain_words.specs.Letters.{ascii}
use Rattle.trace_io.proofs.Saying.{says_then, says_as}
use mathlib.Core.List.{[], ◌∷◌}
use mathlib.Core.Path.{ap}
use Rattle.explain_message.proofs.message.put_field.Goals as goal

pub returns : goal.returns
unfolding ascii field_texts
returns g c =
    let named = says_as c.say_word.ensures (ap (λ w. word w ∷ []) c.field_word.ensures) in
    let valued = says_as c.put_value.ensures (ap (λ k. value_text k c.args.value ∷ []) c.kind_of.ensures) in
    says_then c.say.ensures (says_then named (says_then c.say-2.ensures valued))
