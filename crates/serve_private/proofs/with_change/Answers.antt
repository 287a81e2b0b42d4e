use mathlib.Core.Path.{refl}
use Rattle.domain.specs.Cells.{with_guests}
use Rattle.domain.specs.Channels.{private_marks}
use Rattle.serve_private.specs.Changes.{changed}
use Rattle.serve_private.proofs.with_change.Goals as goal

pub returns-in-Admits : goal.returns-in-Admits
unfolding changed with_guests
returns-in-Admits c = rw (c.in-Admits.is, c.union.ensures) refl

pub returns-in-Expels : goal.returns-in-Expels
unfolding changed private_marks with_guests
returns-in-Expels c = rw (c.in-Expels.is, c.meet.ensures, c.homes_of-mask.ensures, c.minus-stay.ensures) refl
