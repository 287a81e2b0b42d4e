use mathlib.Core.Path.{sym, ◌∙◌}
use Rattle.domain_tables.specs.Held.{users_in}
use Rattle.serve_token_rules.proofs.Deciding.{does_as, quiet_ignored, answer_heard, answer_unheard}
use Rattle.serve_token_rules.proofs.answer_offer.Goals as goal

pub returns-then-is_offered : goal.returns-then-is_offered
returns-then-is_offered c =
    λ ts is here. let a = c.args in
    does_as ts a.k c.concluded.result (c.concluded.ensures ts)
    (answer_heard (users_in a.users.now) ts a.p a.res a.u a.k a.i here is (sym c.is_offered.ensures ∙ c.if-is_offered.true) c.responded-next.result c.responded-next.ensures)

pub returns : goal.returns
returns c =
    λ ts is here. let a = c.args in
    quiet_ignored ts a.k (answer_unheard (users_in a.users.now) ts a.p a.res a.u a.k a.i here is (sym c.is_offered.ensures ∙ c.if-is_offered.false))
