-- `explain_words::fields::field_word` meets its contract, a digit for each field. Assumes nothing.
use Rattle.explain_words.proofs.FieldLaws.{field_none, field_at}
use Rattle.explain_words.specs.FieldNames.{digit_at}
use native.Mathlib.Omega.{arith}
use mathlib.Core.Path.{refl}
use Rattle.explain_words.proofs.fields.field_word.Goals as goal

pub returns-then-i-gt3 : goal.returns-then-i-gt3
returns-then-i-gt3 c = field_none c.args.number c.args.i c.if-i-gt3.true

pub returns-in-0 : goal.returns-in-0
unfolding digit_at
returns-in-0 c = field_at c.args.number c.args.i 0 c.names_of-names.result _ _ c.if-i-gt3.false c.in-0.is c.names_of-names.ensures refl c.word_of.ensures

pub returns-in-1 : goal.returns-in-1
unfolding digit_at
returns-in-1 c = field_at c.args.number c.args.i 1 c.names_of-names.result _ _ c.if-i-gt3.false c.in-1.is c.names_of-names.ensures refl c.word_of-in-1.ensures

pub returns-in-2 : goal.returns-in-2
unfolding digit_at
returns-in-2 c = field_at c.args.number c.args.i 2 c.names_of-names.result _ _ c.if-i-gt3.false c.in-2.is c.names_of-names.ensures refl c.word_of-in-2.ensures

pub returns-in_default : goal.returns-in_default
unfolding digit_at
returns-in_default c = field_at c.args.number c.args.i 3 c.names_of-names.result _ _ c.if-i-gt3.false (omega arith) c.names_of-names.ensures refl c.word_of-in_default.ensures
