use mathlib.Core.Path.{◌≡◌}
use lib.ListN.{length}
use Prim.Native.Nat.{◌*◌, ◌≤◌}
use Rattle.out_records.proofs.Laying.{Onward}
use Rattle.domain.specs.Tables.{Users}
use Rattle.serve_private_tell.specs.Sieve.{Housed, says}
use Rattle.serve_private_tell.proofs.Hearing.{owning}
use Rattle.serve_private_tell.proofs.Taken.tell_all.Given as goal

abbrev pub invariant-loop-q : goal.invariant-loop-q
invariant-loop-q l = record {
  within : l.at ≤ l.q * 138;
  same_length : length l.out ≡ length l.initial.out;
  onward : (us : Users) → Housed us l.list l.self.spots l.self.shares l.self.firsts → Onward l.initial.out 0 (owning us l.list (says l.s) 0) l.out l.at (owning us l.list (says l.s) l.q);
}
