use native.Mathlib.Omega.{arith}
use borrow.Author.Rules.{rules}
use Rattle.serve_leave.proofs.Gathering.{gather_start, gather_turn, gather_stop, gather_end}
use Rattle.serve_leave.proofs.all_on.Goals as goal

pub ids-init : goal.ids-init
ids-init c = let us = c.args.users.now in gather_start us.ids us.links c.args.p c.args.list.now _ (omega arith) (search rules) (search rules)

pub add_leaver-t-requires : goal.add_leaver-t-requires
add_leaver-t-requires c = omega (arith, c.ids.invariant.room)

pub returns-then-u-eq0 : goal.returns-then-u-eq0
returns-then-u-eq0 c = gather_stop c.ids.invariant c.next_where-u.result c.next_where-u.ensures c.if-u-eq0.true

pub ids-preserved : goal.ids-preserved
ids-preserved c = gather_turn c.ids.invariant c.next_where-u.result c.next_where-u.ensures c.if-u-eq0.false _ (omega arith) c.add_leaver-t.ensures

pub returns : goal.returns
returns c = gather_end c.ids.invariant (omega arith)
