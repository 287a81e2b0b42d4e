use mathlib.Core.Path.{refl}
use Rattle.serve_private.specs.Changes.{picks}
use Rattle.serve_private.proofs.pick_for.Goals as goal

pub returns-in-Admits : goal.returns-in-Admits
unfolding picks
returns-in-Admits c = rw c.in-Admits.is refl

pub returns-in-Expels : goal.returns-in-Expels
unfolding picks
returns-in-Expels c = rw c.in-Expels.is refl
