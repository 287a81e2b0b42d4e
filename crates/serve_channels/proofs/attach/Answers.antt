use mathlib.Core.Path.{sym, ◌∙◌}
use Rattle.domain.specs.Tables.{grant}
use Rattle.domain_tables.specs.Held.{domain_in}
use Rattle.serve_channels.proofs.Entering.{attach_asked, attach_crowded, attach_full, attach_refused, attach_done}
use Rattle.serve_channels.proofs.attach.Goals as goal

pub returns-then-at_limit : goal.returns-then-at_limit
returns-then-at_limit c = attach_asked (domain_in c.args.d.now) _ _ (rw (sym c.at_limit.ensures ∙ c.if-at_limit.true) (attach_crowded _ _ _ _ _ _ _ _ _ c.user.ensures))

pub returns-then-at_limit-2 : goal.returns-then-at_limit-2
returns-then-at_limit-2 c = attach_asked (domain_in c.args.d.now) _ _ (rw (sym c.at_limit.ensures ∙ c.if-at_limit.false, sym c.at_limit-2.ensures ∙ c.if-at_limit-2.true) (attach_full _ _ _ _ _ _ _ _ c.user-then-at_limit-2.ensures))

pub returns-then-refused : goal.returns-then-refused
unfolding grant
returns-then-refused c = attach_asked (domain_in c.args.d.now) _ _ (rw (sym c.at_limit.ensures ∙ c.if-at_limit.false, sym c.at_limit-2.ensures ∙ c.if-at_limit-2.false) (attach_refused _ _ _ _ _ _ _ _ (rw c.unused-new.ensures at c.user-a.ensures) (sym c.refused.ensures ∙ c.if-refused.true)))

pub returns : goal.returns
unfolding grant
returns c = attach_asked (domain_in c.args.d.now) _ _ (rw (sym c.at_limit.ensures ∙ c.if-at_limit.false, sym c.at_limit-2.ensures ∙ c.if-at_limit-2.false) (attach_done _ _ _ _ _ _ _ _ (rw c.unused-new.ensures at c.user-a.ensures) (sym c.refused.ensures ∙ c.if-refused.false) _ _ _ (rw c.unused-new.ensures at c.add.ensures) (rw c.unused-new.ensures at c.add-2.ensures) c.new_channel-ch.ensures))
