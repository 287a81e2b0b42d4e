use Rattle.serve_private_tell.proofs.Telling.{mask_of, none_sieved, some_sieved, tells_nobody, tells_some}
use borrow.Author.Rules.{rules}
use Rattle.serve_private_tell.proofs.tell_chosen.Goals as goal

pub returns-then-n-ne0 : goal.returns-then-n-ne0
returns-then-n-ne0 c = let r = c.take_all in
    let t = r.ensures.takes in
    let n = r.new.self.count in
    (tells_some _ _ _ _ (some_sieved r.new.list n t c.if-n-ne0.true (search rules)) (rw t.taken_are at (c.tell-answer.ensures _ t.housed)), mask_of r.new.list n t)

pub returns-else-n-ne0 : goal.returns-else-n-ne0
returns-else-n-ne0 c = let r = c.take_all in
    let t = r.ensures.takes in
    let n = r.new.self.count in
    (tells_nobody _ _ _ _ (none_sieved r.new.list n t c.if-n-ne0.false), mask_of r.new.list n t)
