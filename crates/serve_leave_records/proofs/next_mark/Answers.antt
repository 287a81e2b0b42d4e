-- In the first mask, or in the second.
use Rattle.serve_leave_records.proofs.Least.{first_low, first_high, first_nowhere}
use Rattle.serve_leave_records.proofs.next_mark.Goals as goal

pub returns-then-q-lt64-clause-least : goal.returns-then-q-lt64-clause-least
returns-then-q-lt64-clause-least c = λ xs a b. first_low xs a b c.next_in-q.ensures c.if-q-lt64.true

pub returns-then-r-lt64-clause-least : goal.returns-then-r-lt64-clause-least
returns-then-r-lt64-clause-least c = λ xs a b. first_high xs a b c.next_in-q.ensures c.if-q-lt64.false c.saturating_sub.ensures c.next_in-r.ensures c.if-r-lt64.true

pub returns-else-r-lt64-clause-least : goal.returns-else-r-lt64-clause-least
returns-else-r-lt64-clause-least c = λ xs a b. first_nowhere xs a b c.next_in-q.ensures c.if-q-lt64.false c.saturating_sub.ensures c.next_in-r.ensures c.if-r-lt64.false
