use mathlib.Core.Path.{ap, ◌∙◌}
use Rattle.codec_table.proofs.ColumnLaws.{tail_at_lem}
use Rattle.codec_table.specs.Answers.{outcome_of}
use Rattle.codec_size.proofs.MessageSizes.{body_not, body_tail_not, body_fine, body_over}
use Rattle.std.proofs.lemmas.Grind.{common_steps}
use native.Mathlib.Omega.{arith}
use Rattle.codec_size.proofs.body_size.Goals as goal

pub returns-in_err-at : goal.returns-in_err-at
returns-in_err-at c = body_not _ _ _ _ _ _ c.fields_end.ensures.0 _ (ap outcome_of c.in_err-at.was) (grind (arith, common_steps))

pub returns-in_err-k : goal.returns-in_err-k
returns-in_err-k c = body_tail_not _ _ _ _ _ _ c.fields_end.ensures.0 _ (rw (c.tail_in.ensures ∙ tail_at_lem _ _ c.requires.2) at c.tail_size.ensures.0) _ (ap outcome_of c.in_ok-at.was) _ (ap outcome_of c.in_err-k.was) (grind (arith, common_steps))

pub returns-then-fits : goal.returns-then-fits
returns-then-fits c = body_fine _ _ _ _ _ _ c.fields_end.ensures.0 _ (rw (c.tail_in.ensures ∙ tail_at_lem _ _ c.requires.2) at c.tail_size.ensures.0) _ (ap outcome_of c.in_ok-at.was) _ (ap outcome_of c.in_ok-k.was) c.if-fits.true

pub returns-else-fits : goal.returns-else-fits
returns-else-fits c = body_over _ _ _ _ _ _ c.fields_end.ensures.0 _ (rw (c.tail_in.ensures ∙ tail_at_lem _ _ c.requires.2) at c.tail_size.ensures.0) _ (ap outcome_of c.in_ok-at.was) _ (ap outcome_of c.in_ok-k.was) c.if-fits.false
