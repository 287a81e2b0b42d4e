use Prim.Native.Nat.{◌≤◌}
use mathlib.Core.Path.{◌≡◌}
use lib.ListN.{length}
use Rattle.codec_table.specs.Limits.{list_limit}
use Rattle.codec_read_fast.specs.Listed.{Stored}
use Rattle.codec_read_fast.proofs.lists.ids_at.Given as goal

abbrev pub invariant-loop-i : goal.invariant-loop-i
invariant-loop-i l = (l.i ≤ l.count) × Stored l.s l.from l.low l.i l.listed
