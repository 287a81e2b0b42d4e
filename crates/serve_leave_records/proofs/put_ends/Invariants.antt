-- What the ids above the last one bring is still to come. The ids that the marks or the column bring are all that count.
use Rattle.std.specs.Prelude.{if◌then◌else◌}
use Prim.Native.Nat.{◌≤◌, ◌-◌}
use lib.ListN.{length}
use Rattle.cols_spec.specs.Sets.{each}
use Rattle.cols_spec.specs.Places.{in_order, picked}
use Rattle.out_records.specs.Records.{records}
use Rattle.out_records.proofs.Laying.{Onward}
use Rattle.domain_tables.specs.Held.{users_in, channels_in}
use Rattle.serve_leave_records.specs.Parts.{ends_there, end_at}
use Rattle.serve_leave_records.proofs.Rounds.{coming}
use Rattle.serve_leave_records.proofs.put_ends.Given as goal

abbrev pub invariant-ids : goal.invariant-ids
invariant-ids l = record {
  few : length l.channels.ids ≤ 128;
  laid : Onward l.initial.out l.from (records (each (end_at (users_in l.users) (channels_in l.channels l.members) l.gone l.live) (in_order l.channels.ids))) l.out l.at
      (coming (end_at (users_in l.users) (channels_in l.channels l.members) l.gone l.live) (length l.channels.ids - l.counter) l.low (if l.e.beyond then l.channels.ids else picked (ends_there l.gone l.channels.kinds l.channels.managers) 0 l.channels.ids));
}
