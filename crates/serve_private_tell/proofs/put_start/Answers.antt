use mathlib.Core.Path.{refl}
use Rattle.serve_private_tell.specs.Sieve.{says}
use Rattle.serve_private_tell.proofs.Hearing.{begins, begins_most}
use borrow.Author.Rules.{rules}
use Rattle.serve_private_tell.proofs.put_start.Goals as goal

pub returns-in-Admits : goal.returns-in-Admits
unfolding says
returns-in-Admits c = let a = c.args in
    let p = c.put_all.ensures in
    let w = c.admit_start in
    (begins w.result (search rules) (search rules) p a.s _ (λ ids. rw c.in-Admits.is refl) a.q a.count w.ensures, begins_most w.result (search rules) (search rules) p)

pub returns-in-Expels : goal.returns-in-Expels
unfolding says
returns-in-Expels c = let a = c.args in
    let p = c.put_all-in-Expels.ensures in
    let w = c.expel_start in
    (begins w.result (search rules) (search rules) p a.s _ (λ ids. rw c.in-Expels.is refl) a.q a.count w.ensures, begins_most w.result (search rules) (search rules) p)
