-- A user is added where it is found on p and its place is not yet taken.
use mathlib.Core.Path.{sym, ◌∙◌}
use native.Mathlib.Omega.{arith}
use borrow.Author.Rules.{rules}
use Rattle.domain_tables.specs.Held.{users_in}
use Rattle.serve_leave.proofs.LeaverLaws.{attached_there, adds_nobody, adds_again, adds_new}
use Rattle.serve_leave.proofs.add_leaver.Goals as goal

pub returns-in_default : goal.returns-in_default
returns-in_default c = let a = c.args in adds_nobody (users_in a.users.now) a.p a.u a.list.now a.t (sym c.in_default.ensures)

pub bounds-users-seat : goal.bounds-users-seat
bounds-users-seat c = let a = c.args in omega (arith, (attached_there (users_in a.users.now) a.p a.u c.in-Some.seat (sym c.in-Some.ensures)).1)

pub prove-unreachable-requires : goal.prove-unreachable-requires
prove-unreachable-requires c = let a = c.args in c.if-prove.true (attached_there (users_in a.users.now) a.p a.u c.in-Some.seat (sym c.in-Some.ensures)).0

pub returns-then-has : goal.returns-then-has
returns-then-has c = let a = c.args in
    adds_again (users_in a.users.now) a.p a.u a.list.now a.t (search rules) c.in-Some.seat (sym c.in-Some.ensures) (sym c.has.ensures ∙ c.if-has.true)

pub returns : goal.returns
returns c = let a = c.args in
    adds_new (users_in a.users.now) a.p a.u a.list.now a.t (search rules) c.in-Some.seat (sym c.in-Some.ensures) (sym c.has.ensures ∙ c.if-has.false) c.requires (search rules) _ c.with.ensures
