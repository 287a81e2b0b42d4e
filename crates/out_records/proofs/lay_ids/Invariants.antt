use Prim.Native.Nat.{◌+◌, ◌*◌, ◌≤◌}
use lib.ListN.{drop}
use Rattle.out_records.specs.Out.{each_two}
use Rattle.out_records.proofs.Laying.{Onward}
use Rattle.out_records.proofs.lay_ids.Given as goal

abbrev pub invariant-loop-id : goal.invariant-loop-id
invariant-loop-id l = (l.at ≤ l.from + l.id-index * 2) × Onward l.initial.s l.from (each_two l.low l.ids) l.s l.at (each_two l.low (drop l.id-index l.ids))
