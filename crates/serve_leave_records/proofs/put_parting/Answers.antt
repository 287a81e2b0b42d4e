use mathlib.Core.Path.{refl}
use native.Mathlib.Omega.{arith}
use borrow.Author.Rules.{rules}
use Rattle.serve_leave_records.proofs.Parts.{message_inside, message_count, parting_none, parting_some, parting_length}
use Rattle.serve_leave_records.proofs.put_parting.Goals as goal

pub returns-then-ids-eq0 : goal.returns-then-ids-eq0
returns-then-ids-eq0 c = let a = c.args in (parting_none a.live a.reason a.ids.now _ c.if-ids-eq0.true, search rules)

pub slice_bounds-m-end : goal.slice_bounds-m-end
slice_bounds-m-end c = let a = c.args in message_inside a.reason a.ids.now (omega arith) c.requires refl c.detach_indication-n.ensures

pub slice_bounds-tell-end : goal.slice_bounds-tell-end
slice_bounds-tell-end c = let a = c.args in message_count a.reason a.ids.now (omega arith) c.requires refl c.detach_indication-n.ensures

pub returns : goal.returns
returns c = let a = c.args in
    let p = parting_some a.reason a.ids.now (omega arith) c.requires refl c.detach_indication-n.ensures a.live c.if-ids-eq0.false c.tell.ensures in
    (p, omega (arith, p.next, parting_length a.reason a.ids.now (omega arith) c.requires a.live))
