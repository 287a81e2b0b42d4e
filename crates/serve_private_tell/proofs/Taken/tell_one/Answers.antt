-- Nobody is there to hear, or the record is begun and its users laid behind it.
use mathlib.Core.Path.{sym, ◌∙◌}
use native.Mathlib.Nat.{le_trans}
use Rattle.serve_private_tell.specs.Sieve.{owned_by}
use Rattle.serve_private_tell.proofs.Sieving.{share_le}
use Rattle.serve_private_tell.proofs.Hearing.{own_silent, own_heard}
use borrow.Author.Rules.{rules}
use Rattle.serve_private_tell.proofs.Taken.tell_one.Goals as goal

pub returns-then-n-eq0-clause-puts : goal.returns-then-n-eq0-clause-puts
returns-then-n-eq0-clause-puts c = let a = c.args in
    λ us h. own_silent us a.list.now _ a.q (sym (h.shared a.q (search rules)) ∙ c.if-n-eq0.true) _ _

pub returns-clause-puts : goal.returns-clause-puts
returns-clause-puts c = let a = c.args in
    λ us h.
    let n = sym (h.shared a.q (search rules)) in
    rw (own_heard us a.list.now _ a.q (λ z. c.if-n-eq0.false (sym n ∙ z)))
    (c.put_start-from.ensures.0 (owned_by us a.q a.list.now) n (le_trans (share_le h a.q (search rules)) (search rules)) _ _ (c.put_own.ensures.puts us h.located (h.led a.q (search rules)).1 n))
