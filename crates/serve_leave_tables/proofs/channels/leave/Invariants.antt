-- The loop goes from one place in use to the next.
use Prim.Native.Nat.{◌-◌, ◌<◌}
use lib.ListN.{get_or}
use Rattle.cols_spec.specs.Swept.{anywhere}
use Rattle.cols_spec.proofs.Sweeps.{Sweeps}
use Rattle.domain.specs.Cells.{no_channel}
use Rattle.domain_tables.specs.Held.{cells_in, users_in}
use Rattle.serve_leave_tables.specs.Fates.{fate_by}
use Rattle.serve_leave_tables.proofs.channels.leave.Given as goal

abbrev pub invariant-loop-j : goal.invariant-loop-j
invariant-loop-j l = record {
  in_use : l.j < 128 → 0 < get_or l.channels.ids l.j 0;
  swept : Sweeps no_channel (anywhere (fate_by (users_in l.users) l.list l.gone l.live)) 128 l.initial.channels.ids (cells_in l.initial.channels l.initial.members) l.j l.channels.ids (cells_in l.channels l.members);
}

abbrev pub decreases-loop-j : goal.decreases-loop-j
decreases-loop-j l = 128 - l.j
