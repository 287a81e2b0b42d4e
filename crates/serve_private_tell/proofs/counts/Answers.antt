use mathlib.Core.Path.{refl}
use Rattle.serve_private_tell.specs.Sieve.{counted}
use Rattle.serve_private_tell.proofs.counts.Goals as goal

pub returns-in-Attached : goal.returns-in-Attached
unfolding counted
returns-in-Attached c = rw c.in-Attached.is refl

pub returns-in-Admitted : goal.returns-in-Admitted
unfolding counted
returns-in-Admitted c = rw c.in-Admitted.is c.has.ensures
