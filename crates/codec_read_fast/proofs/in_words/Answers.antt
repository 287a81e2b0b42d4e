use mathlib.Core.Path.{refl, ◌∙◌}
use borrow.Author.Tests.{ne_eqb}
use Rattle.codec_read_fast.specs.Shortly.{in_words}
use Rattle.codec_read_fast.proofs.in_words.Goals as goal

pub returns-then-w-eq-TVRS : goal.returns-then-w-eq-TVRS
unfolding in_words
returns-then-w-eq-TVRS c = c.of_values.ensures ∙ rw c.if-w-eq-TVRS.true refl

pub returns : goal.returns
unfolding in_words
returns c = c.of_values-2.ensures ∙ rw (ne_eqb _ 35 c.if-w-eq-TVRS.false) refl
