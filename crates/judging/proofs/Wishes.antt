-- The promise with a wish gives the judge's step, and with none the promise as it is. Assumes nothing.
use mathlib.Core.Path.{refl, ap, ◌∙◌}
use lib.ListN.{length, drop}
use lib.Seq.{take-append_seam}
use Rattle.out_records.specs.Records.{records}
use Rattle.domain.specs.Events.{Outcome, step, step_with}
use Rattle.domain.specs.Outcomes.{step_settled, after}
use Rattle.history.specs.Served.{event}
use Rattle.judging.specs.Judge.{chosen}
use Rattle.judging.specs.Wished.{after_wished, NoWish, NeverWished, WishSteps}
use Rattle.judging.proofs.Forcing.{chosen_free, chosen_own, roomy}

-- no wish
pub without : NoWish
unfolding after_wished after step
without d e out = rw (chosen_own d.channels) refl

-- no wish is looked at
pub never : NeverWished
unfolding after_wished after step step_with
never wish d p out = (refl, refl)

-- the judge's step
pub steps : WishSteps
unfolding after_wished step_settled
steps wish d c out g y h =
    let e = roomy d (chosen d.channels wish) c (length out) g y (chosen_free d g wish) h in
    let rs = (step_with (chosen d.channels wish) d (event c) (length out)).sent in
    record {
      tables = ap (λ (o : Outcome). o.domain) e;
      octets = take-append_seam (records rs) (drop (length (records rs)) out) ∙ ap (λ (o : Outcome). records o.sent) e;
    }
