use Prim.Native.Nat.{◌-◌}
use lib.ListN.{length}
use Rattle.cols_spec.specs.Places.{in_order, picked}
use Rattle.domain.specs.Leaving.{those_on}
use Rattle.domain_tables.specs.Held.{users_in}
use Rattle.serve_leave.proofs.Gathering.{here, Gathering}
use Rattle.serve_leave.proofs.all_on.Given as goal

abbrev pub invariant-ids : goal.invariant-ids
invariant-ids l =
    Gathering (users_in l.users) l.p (those_on (users_in l.users) l.p (in_order l.users.ids)) (picked (here l.users.links l.p) 0 l.users.ids) l.list l.t l.low (length l.users.ids - l.counter)
