-- One run into a long room; into a short one a run with no room lent, and a second where the records fit. Then there is room for all of it, or there is not.
use Prim.Native.Nat.{◌≤◌}
use mathlib.Core.Path.{◌≡◌}
use lib.ListN.{length}
use Rattle.out_records.specs.Records.{records}
use Rattle.out_records.proofs.Saying.{Saying, runs}
use Rattle.domain.specs.Tables.{Users}
use Rattle.domain.specs.Channels.{own}
use Rattle.serve_private_tell.specs.Sieve.{Housed, says}
use Rattle.serve_private_tell.proofs.Taken.tell.Given as goal

abbrev pub invariant-loop-again : goal.invariant-loop-again
invariant-loop-again l = record {
  within : l.to ≤ length l.out;
  same_length : length l.out ≡ length l.initial.out;
  saying : (us : Users) → Housed us l.list l.self.spots l.self.shares l.self.firsts → Saying l.initial.out (records (own us l.list (says l.s))) l.out l.to l.total l.again;
}

abbrev pub decreases-loop-again : goal.decreases-loop-again
decreases-loop-again l = runs l.again l.to l.room
