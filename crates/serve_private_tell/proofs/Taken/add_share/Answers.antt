use mathlib.Core.Path.{refl, sym, ap, ◌∙◌}
use borrow.Author.Tests.{eq-eqb, ne_eqb}
use Rattle.std.proofs.lemmas.List.{set-get_or}
use Rattle.serve_private_tell.specs.Sieve.{leads}
use Rattle.serve_private_tell.proofs.Taken.add_share.Goals as goal
use Rattle.serve_private_tell.proofs.Taken.add_share.Goals.{then-self-i-eq0, else-self-i-eq0}

pub returns-after-self-i-eq0-clause-firsts : goal.returns-after-self-i-eq0-clause-firsts
unfolding leads
returns-after-self-i-eq0-clause-firsts c = let a = c.args in
    elim c.if-self-i-eq0.branch [
      | then-self-i-eq0 w ↦ ap (λ t. t.firsts) w.self-is ∙ rw (eq-eqb _ 0 w.if-self-i-eq0.true) refl
      | else-self-i-eq0 w ↦ ap (λ t. t.firsts) w.self-is ∙ rw (ne_eqb _ 0 w.if-self-i-eq0.false) (sym (set-get_or a.self.now.firsts a.q 0))
    ]
