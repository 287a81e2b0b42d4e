use mathlib.Core.Path.{sym, ◌∙◌}
use borrow.Author.Rules.{rules}
use Rattle.domain.specs.Tables.{set_channel}
use Rattle.serve_channels.proofs.Entering.{fails, succeeds, join_denied, join_refused, join_done}
use Rattle.serve_channels.proofs.join_at.Goals as goal

pub returns-then-denied : goal.returns-then-denied
returns-then-denied c = join_denied _ _ _ _ _ _ _ _ _ c.at-ch.ensures c.from.ensures c.may_join-res.ensures _ _ _ _ (fails _ (search rules)) c.confirm.ensures

pub returns-then-refused : goal.returns-then-refused
returns-then-refused c = join_refused _ _ _ _ _ _ _ _ _ c.at-ch.ensures c.from.ensures c.may_join-res.ensures _ _ _ _ (succeeds _ (search rules)) c.confirm-a.ensures (sym c.refused.ensures ∙ c.if-refused.true)

pub returns : goal.returns
unfolding set_channel
returns c = join_done _ _ _ _ _ _ _ _ _ c.at-ch.ensures c.from.ensures c.may_join-res.ensures _ _ _ _ (succeeds _ (search rules)) c.confirm-a.ensures (sym c.refused.ensures ∙ c.if-refused.false) _ _ c.with.ensures (λ i. record { ids = c.put.ensures.ids i; cells = c.put.ensures.cells i })
