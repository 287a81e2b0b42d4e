-- At a private channel's place, those before are marked.
use Prim.Native.Nat.{◌-◌}
use mathlib.Core.Path.{◌≡◌}
use lib.ListN.{length}
use Rattle.serve_leave_records.specs.Parts.{ends_there}
use Rattle.serve_leave_records.specs.Endings.{Marks}
use Rattle.serve_leave_records.proofs.Marking.{those_before}
use Rattle.serve_leave_records.proofs.find_ends.Given as goal

abbrev pub invariant-loop-j : goal.invariant-loop-j
invariant-loop-j l = (length l.channels.ids ≡ 128) × (length l.channels.kinds ≡ 128) × Marks (those_before (ends_there l.gone l.channels.kinds l.channels.managers) l.channels.ids l.j) l.e

abbrev pub decreases-loop-j : goal.decreases-loop-j
decreases-loop-j l = 128 - l.j
