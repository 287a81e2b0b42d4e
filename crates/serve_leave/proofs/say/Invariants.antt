-- One run into a long room; into a short one a run with no room lent, and a second where the records fit. That 17,200 octets are enough is known from the
-- first run on.
use Prim.Native.Nat.{◌≤◌}
use mathlib.Core.Path.{◌≡◌}
use mathlib.Core.Bool.{false}
use lib.ListN.{length, take}
use Rattle.out_records.specs.Records.{records}
use Rattle.out_records.proofs.Saying.{Saying, runs}
use Rattle.domain.specs.Leaving.{farewell}
use Rattle.domain_tables.specs.Held.{domain_in}
use Rattle.serve_leave.proofs.say.Given as goal

abbrev pub invariant-loop-again : goal.invariant-loop-again
invariant-loop-again l = record {
  inside : l.to ≤ length l.out;
  size : length l.out ≡ length l.initial.out;
  few : l.again ≡ false → length (records (farewell (domain_in l.d) l.who.seats l.live l.reason (take l.who.count l.list))) ≤ 17200;
  saying : length (records (farewell (domain_in l.d) l.who.seats l.live l.reason (take l.who.count l.list))) ≤ 17200
      → Saying l.initial.out (records (farewell (domain_in l.d) l.who.seats l.live l.reason (take l.who.count l.list))) l.out l.to l.total l.again;
}

abbrev pub decreases-loop-again : goal.decreases-loop-again
decreases-loop-again l = runs l.again l.to l.room
