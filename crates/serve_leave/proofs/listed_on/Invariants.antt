-- Those of the ids read who leave are listed in front of the ids that are still to be read.
use mathlib.Core.Path.{◌≡◌}
use lib.ListN.{length}
use Rattle.domain_tables.specs.Held.{users_in}
use Rattle.serve_leave.proofs.Picking.{Picking}
use Rattle.serve_leave.proofs.listed_on.Given as goal

abbrev pub invariant-loop-i : goal.invariant-loop-i
invariant-loop-i l = record { size : length l.initial.list ≡ 64; picked : Picking (users_in l.users) l.p l.initial.list l.list l.t l.i }
