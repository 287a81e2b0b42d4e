use Rattle.explain_words.proofs.WordLaws.{placed_past, placed_nowhere, placed_at}
use Rattle.trace_io.proofs.Saying.{says_as}
use Rattle.explain_words.proofs.words.say_named.Goals.{then-count-value-via-then-count-value, then-count-value-via-else-count-value+then-group-ge-NONE}
use Rattle.explain_words.proofs.words.say_named.Goals as goal

pub returns-then-count-value : goal.returns-then-count-value
returns-then-count-value g c = let a = c.args in
    says_as c.say_word.ensures (elim c.then-count-value.branch [
      | then-count-value-via-then-count-value w ↦ placed_past a.group a.count a.value w.if-count-value.true
      | then-count-value-via-else-count-value+then-group-ge-NONE w ↦ placed_nowhere a.group a.count a.value w.if-count-value.false w.if-group-ge-NONE.true
    ])

pub returns : goal.returns
returns g c = let a = c.args in says_as c.say_word-2.ensures (placed_at a.group a.count a.value c.if-count-value.false c.if-group-ge-NONE.false)
