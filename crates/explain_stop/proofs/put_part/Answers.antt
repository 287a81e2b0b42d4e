-- `explain_stop::put_part` meets its contract, part by part. Assumes nothing.
use Rattle.explain_stop.proofs.StopLaws.{part_is}
use Rattle.explain_stop.specs.StopLine.{items_place, part_text}
use Rattle.codec_stop.specs.declared.Part.TheVariants.{Number, Items, End}
use Rattle.explain_words.specs.Words.{word, placed, part_words}
use Rattle.trace_io.proofs.Saying.{says_as}
use mathlib.Core.List.{[], ◌∷◌}
use mathlib.Core.Path.{ap, ◌∙◌}
use borrow.Author.Rules.{rules}
use Rattle.explain_stop.proofs.put_part.Goals as goal

pub returns-in-Number : goal.returns-in-Number
unfolding part_text
returns-in-Number g c = says_as c.say_named.ensures (part_is c.args.number c.args.part Number (search rules))

pub returns-in-Field : goal.returns-in-Field
unfolding part_text
returns-in-Field g c = says_as c.say_word.ensures (ap (λ w. word w ∷ []) c.field_word.ensures ∙ part_is c.args.number c.args.part _ c.in-Field.is)

pub returns-in-Items : goal.returns-in-Items
unfolding part_text
returns-in-Items g c = says_as c.say_named-in-Items.ensures (ap (λ w. word (placed part_words 3 w) ∷ []) (c.before-in-Items.ensures ∙ ap items_place c.tail_of.ensures) ∙ part_is c.args.number c.args.part Items (search rules))

pub returns-in-End : goal.returns-in-End
unfolding part_text
returns-in-End g c = says_as c.say_named-in-End.ensures (part_is c.args.number c.args.part End (search rules))
