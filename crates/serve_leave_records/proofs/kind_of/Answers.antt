use mathlib.Core.Path.{refl}
use Rattle.cols_spec.specs.Places.{load}
use Rattle.domain.specs.Cells.{kind}
use Rattle.serve_leave_records.proofs.kind_of.Goals as goal

pub returns-in-Some : goal.returns-in-Some
unfolding load
returns-in-Some c = rw (c.from.ensures, c.at.ensures, ← c.in-Some.ensures) refl

pub returns-in-None : goal.returns-in-None
unfolding load kind
returns-in-None c = rw (← c.in-None.ensures) refl
