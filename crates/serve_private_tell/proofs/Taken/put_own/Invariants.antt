-- What is laid so far, and what is owed from place i on, are all of them.
use Prim.Native.Nat.{◌+◌, ◌*◌, ◌-◌, ◌≤◌}
use mathlib.Core.Path.{◌≡◌}
use mathlib.Core.List.{[]}
use lib.ListN.{length, take}
use Rattle.out_records.specs.Out.{each_two}
use Rattle.out_records.proofs.Laying.{Onward}
use Rattle.domain.specs.Tables.{Users}
use Rattle.serve_private_tell.specs.Sieve.{Located, owned_by}
use Rattle.serve_private_tell.proofs.Hearing.{owing}
use Rattle.serve_private_tell.proofs.Taken.put_own.Given as goal

abbrev pub invariant-loop-i : goal.invariant-loop-i
invariant-loop-i l = record {
  within : l.at + 2 * (length l.list - l.i) ≤ l.from + 2 * length l.list;
  same_length : length l.out ≡ length l.initial.out;
  onward : (us : Users) → Located us l.list l.self.spots → owned_by us l.q (take l.first l.list) ≡ [] → Onward l.initial.out l.from (each_two 1001 (owned_by us l.q l.list)) l.out l.at (owing us l.q l.list l.i);
}
