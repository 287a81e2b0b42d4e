use Prim.Native.Nat.{◌-◌}
use mathlib.Core.Path.{◌≡◌}
use Rattle.cols_spec.specs.Swept.{anywhere}
use Rattle.cols_spec.proofs.Sweeps.{Sweeps}
use Rattle.domain.specs.Cells.{no_channel}
use Rattle.domain.specs.Channels.{left}
use Rattle.domain_tables.specs.Held.{cells_in}
use Rattle.serve_channels.proofs.leave_all.Given as goal

abbrev pub invariant-loop-j : goal.invariant-loop-j
invariant-loop-j l =
    (l.n ≡ 128) × Sweeps no_channel (anywhere (left l.p l.listed)) 128 l.initial.channels.ids (cells_in l.initial.channels l.initial.members) l.j l.channels.ids (cells_in l.channels l.members)

abbrev pub decreases-loop-j : goal.decreases-loop-j
decreases-loop-j l = l.n - l.j
