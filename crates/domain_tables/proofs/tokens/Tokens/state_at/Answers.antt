use mathlib.Core.Path.{refl}
use Rattle.cols_spec.specs.Places.{load}
use Rattle.domain.specs.Cells.{hold}
use Rattle.domain_tables.proofs.tokens.Tokens.state_at.Goals as goal

pub returns-in-Some : goal.returns-in-Some
unfolding load
returns-in-Some c = rw c.in-Some.is c.held_at.ensures

pub returns-in-None : goal.returns-in-None
unfolding load hold
returns-in-None c = rw c.in-None.is refl
