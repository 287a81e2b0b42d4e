use mathlib.Core.Path.{ap, ◌∙◌}
use lib.ListN.{take}
use Rattle.domain.specs.Tables.{Channels}
use Rattle.domain.specs.Effects.{Effect, settle}
use Rattle.domain_tables.specs.Held.{domain_in}
use Rattle.serve_private.proofs.Admitting.{revise_asked, revise_ignored, revises}
use Rattle.serve_private.proofs.revise.Goals as goal

pub returns-in_default : goal.returns-in_default
returns-in_default c = let a = c.args in
    rw c.ignored.ensures (revise_asked (domain_in a.d.now) a.p a.s _ _ (revise_ignored _ _ _ _ _ a.s (rw c.asked-u.ensures at c.in_default.ensures)))

pub returns : goal.returns
returns c =
    let a = c.args in
    let d = domain_in a.d.now in
    let ids = take 64 a.listed.now in
    revise_asked d a.p a.s ids a.out.now
    (c.change.ensures ∙ ap (λ (x : Effect Channels). settle d.channels x a.out.now) (revises d.users d.channels a.p ids a.s c.in-Some.j (rw c.asked-u.ensures at c.in-Some.ensures)))
