-- Those picked of the ids passed are taken; those to come stand as they stood.
use Prim.Native.Nat.{ℕ, ◌≤◌}
use mathlib.Core.Path.{◌≡◌}
use lib.ListN.{length, take, get_or}
use Rattle.domain_tables.specs.Held.{users_in}
use Rattle.serve_private_tell.specs.Sieve.{Takes}
use Rattle.serve_private_tell.proofs.Taken.take_all.Given as goal

abbrev pub invariant-loop-i : goal.invariant-loop-i
invariant-loop-i l = record {
  within : (l.m ≤ 64) × (l.m ≤ length l.initial.list) × (l.self.count ≤ l.i);
  same_length : length l.list ≡ length l.initial.list;
  to_come : (j : ℕ) → l.i ≤ j → get_or l.list j 0 ≡ get_or l.initial.list j 0;
  takes : Takes (users_in l.users) l.k (take l.i l.initial.list) (take l.self.count l.list) l.self.spots l.self.shares l.self.firsts l.self.seats;
}
