use mathlib.Core.Path.{refl, ap, ◌∙◌}
use Rattle.domain.specs.declared.numbers.Reply.TheVariants.{BadEncoding, MayNotGoUp}
use Rattle.domain.specs.Numbers.{reply_number}
use Rattle.domain.proofs.OneNumber.{same_reply}
use Rattle.serve_refuse.proofs.Rejecting.{complains_bad, complains_forbidden, complains_none}
use Rattle.serve_refuse.proofs.refuse.Goals as goal

pub returns-in-BadEncoding : goal.returns-in-BadEncoding
returns-in-BadEncoding c = λ d. c.reject.ensures d ∙ complains_bad d _ _ _ _ _ (ap reply_number c.in-BadEncoding.is) refl

pub returns-in-MayNotGoUp : goal.returns-in-MayNotGoUp
returns-in-MayNotGoUp c = λ d. c.reject-in-MayNotGoUp.ensures d ∙ complains_forbidden d _ _ _ _ _ (ap reply_number c.in-MayNotGoUp.is) refl

pub returns-in_default : goal.returns-in_default
returns-in_default c = λ d. complains_none d _ _ _ _ (λ e. c.in_default.not-BadEncoding (same_reply c.args.reply BadEncoding e)) (λ e. c.in_default.not-MayNotGoUp (same_reply c.args.reply MayNotGoUp e))
