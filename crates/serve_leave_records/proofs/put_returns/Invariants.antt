-- What the ids above the last one bring is still to come.
use Prim.Native.Nat.{◌≤◌, ◌-◌}
use lib.ListN.{length}
use Rattle.cols_spec.specs.Sets.{each}
use Rattle.cols_spec.specs.Places.{in_order, picked}
use Rattle.out_records.specs.Records.{records}
use Rattle.out_records.proofs.Laying.{Onward}
use Rattle.domain_tables.specs.Held.{users_in, tokens_in}
use Rattle.serve_leave_records.specs.Parts.{return_at}
use Rattle.serve_leave_records.proofs.Rounds.{coming}
use Rattle.serve_leave_records.proofs.Quiet.{given_there}
use Rattle.serve_leave_records.proofs.put_returns.Given as goal

abbrev pub invariant-ids : goal.invariant-ids
invariant-ids l = record {
  few : length l.tokens.ids ≤ 64;
  laid : Onward l.initial.out l.from (records (each (return_at (users_in l.users) (tokens_in l.tokens) l.gone) (in_order l.tokens.ids))) l.out l.at
      (coming (return_at (users_in l.users) (tokens_in l.tokens) l.gone) (length l.tokens.ids - l.counter) l.low (picked (given_there l.tokens.states) 0 l.tokens.ids));
}
