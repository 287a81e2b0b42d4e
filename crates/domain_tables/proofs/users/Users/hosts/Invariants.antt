-- The loop takes the lowest user out of the set.
use Prim.Native.Nat.{◌-◌}
use mathlib.Core.Path.{◌≡◌}
use lib.Count.{count_trailing_zeros}
use lib.ListN.{length}
use Rattle.domain.specs.Tables.{users_of}
use Rattle.domain_tables.proofs.UserLaws.{Left}
use Rattle.domain_tables.proofs.users.Users.hosts.Given as goal

abbrev pub invariant-loop-left : goal.invariant-loop-left
invariant-loop-left l = (length l.self.links ≡ 64) × Left (users_of l.self.ids l.self.links) l.who l.left l.m (count_trailing_zeros 64 l.left)

abbrev pub decreases-loop-left : goal.decreases-loop-left
decreases-loop-left l = 64 - count_trailing_zeros 64 l.left
