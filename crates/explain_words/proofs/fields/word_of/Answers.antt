-- `explain_words::fields::word_of` meets its contract. Assumes nothing.
use Rattle.explain_words.specs.FieldNames.{word_of}
use borrow.Author.Tests.{lt-ltb, le-ltb}
use Rattle.explain_words.proofs.fields.word_of.Goals as goal

pub returns-then-digit-gt10 : goal.returns-then-digit-gt10
unfolding word_of
returns-then-digit-gt10 c = simp (lt-ltb _ _ c.if-digit-gt10.true)

pub returns : goal.returns
unfolding word_of
returns c = simp (le-ltb _ _ c.if-digit-gt10.false)
