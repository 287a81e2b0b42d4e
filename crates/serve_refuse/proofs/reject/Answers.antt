use mathlib.Core.Path.{refl, sym}
use native.Mathlib.Omega.{arith}
use Rattle.serve_refuse.proofs.Rejecting.{rejection_inside, rejection_count, rejection_few, rejection_full, rejection_sent}
use borrow.Author.Rules.{rules}
use Rattle.serve_refuse.proofs.reject.Goals as goal

pub overflow_add-total : goal.overflow_add-total
overflow_add-total c = let n = rejection_few c.args.octets.now c.from.result (search rules) _ _ _ c.reject-n.ensures refl in omega arith

pub returns-then-out-total : goal.returns-then-out-total
returns-then-out-total c = λ d. rw (sym c.from.ensures) (rejection_full c.args.octets.now c.from.result (search rules) _ _ _ c.reject-n.ensures refl _ _ d _ c.if-out-total.true)

pub slice_bounds-m-end : goal.slice_bounds-m-end
slice_bounds-m-end c = rejection_inside c.args.octets.now c.from.result (search rules) _ _ _ c.reject-n.ensures refl

pub slice_bounds-put_record-end : goal.slice_bounds-put_record-end
slice_bounds-put_record-end c = rejection_count c.args.octets.now c.from.result (search rules) _ _ _ c.reject-n.ensures refl

pub returns : goal.returns
returns c = λ d. rw (sym c.from.ensures) (rejection_sent c.args.octets.now c.from.result (search rules) _ _ _ c.reject-n.ensures refl _ _ d _ c.if-out-total.false _ _ c.put_record-sent.ensures)
