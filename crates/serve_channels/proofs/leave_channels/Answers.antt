use mathlib.Core.Path.{sym, ◌∙◌}
use Rattle.domain_tables.specs.Held.{domain_in}
use Rattle.serve_channels.proofs.Parting.{leave_asked, leave_done, leave_ignored}
use Rattle.serve_channels.proofs.leave_channels.Goals as goal

pub returns-then-any_joined : goal.returns-then-any_joined
returns-then-any_joined c = leave_asked (domain_in c.args.d.now) _ _ _ (leave_done _ _ _ _ (sym c.if-any_joined.true ∙ c.any_joined.ensures) _ c.leave_all.ensures)

pub returns : goal.returns
returns c = rw c.ignored.ensures (leave_asked (domain_in c.args.d.now) _ _ _ (leave_ignored _ _ _ _ (sym c.if-any_joined.false ∙ c.any_joined.ensures)))
