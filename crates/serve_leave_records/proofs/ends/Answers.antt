use mathlib.Core.Path.{refl}
use Rattle.serve_leave_records.proofs.ends.Goals as goal

pub returns : goal.returns
returns c = rw c.has.ensures refl
