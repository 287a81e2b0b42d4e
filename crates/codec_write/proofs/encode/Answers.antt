use Rattle.codec_write.proofs.MessageLaws.{filled_short, filled_not, filled_whole}
use Rattle.codec_table.specs.Answers.{outcome_of}
use lib.Seq.{length-take-le}
use mathlib.Core.Path.{sym, ap, ◌∙◌}
use Rattle.codec_table.specs.Codec.{ok}
use Rattle.std.proofs.lemmas.Grind.{common_steps}
use native.Mathlib.Omega.{arith}
use Rattle.codec_write.proofs.encode.Goals as goal

pub returns-in_err-n : goal.returns-in_err-n
returns-in_err-n c = filled_not _ _ _ (sym (ap outcome_of c.in_err-n.was) ∙ c.measure-m.ensures.1) _ (grind (arith, common_steps))

pub returns-then-out-n : goal.returns-then-out-n
returns-then-out-n c = filled_short _ _ _ (sym (ap outcome_of c.in_ok-n.was) ∙ c.measure-m.ensures.1) c.if-out-n.true

pub put_message-requires : goal.put_message-requires
put_message-requires c = (c.measure-m.ensures.0, sym c.measure-m.ensures.1 ∙ ap outcome_of c.in_ok-n.was ∙ ap ok (sym (length-take-le _ _ c.if-out-n.false)))

pub returns : goal.returns
returns c = filled_whole _ _ _ (sym (ap outcome_of c.in_ok-n.was) ∙ c.measure-m.ensures.1) c.if-out-n.false _ c.put_message.ensures
