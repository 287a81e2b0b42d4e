-- The loop goes from one place in use to the next.
use Prim.Native.Nat.{◌-◌, ◌<◌}
use lib.ListN.{get_or}
use Rattle.cols_spec.proofs.Sweeps.{Sweeps}
use Rattle.domain.specs.Cells.{no_token}
use Rattle.domain_tables.specs.Held.{token_cells_in}
use Rattle.serve_leave_tables.specs.Fates.{loses}
use Rattle.serve_leave_tables.proofs.tokens.leave.Given as goal

abbrev pub invariant-loop-j : goal.invariant-loop-j
invariant-loop-j l = record {
  in_use : l.j < 64 → 0 < get_or l.tokens.ids l.j 0;
  swept : Sweeps no_token (loses l.gone) 64 l.initial.tokens.ids (token_cells_in l.initial.tokens) l.j l.tokens.ids (token_cells_in l.tokens);
}

abbrev pub decreases-loop-j : goal.decreases-loop-j
decreases-loop-j l = 64 - l.j
