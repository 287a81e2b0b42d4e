use mathlib.Core.Path.{sym, ◌∙◌}
use Rattle.domain.specs.Tables.{grant}
use Rattle.domain_tables.specs.Held.{domain_in}
use Rattle.serve_private.proofs.Managing.{convene_asked, convene_nobody, convene_full, convene_refused, convene_done}
use Rattle.serve_private.proofs.convene.Goals as goal

pub returns-in_default : goal.returns-in_default
returns-in_default c = rw c.ignored.ensures (convene_asked (domain_in c.args.d.now) _ _ _ (convene_nobody _ _ _ _ _ _ _ (sym c.in_default.ensures)))

pub returns-then-at_limit : goal.returns-then-at_limit
returns-then-at_limit c = convene_asked (domain_in c.args.d.now) _ _ _ (rw (sym c.at_limit.ensures ∙ c.if-at_limit.true) (convene_full _ _ _ _ _ _ _ (sym c.in-Some.ensures) _ _ _ c.convene.ensures))

pub returns-then-refused : goal.returns-then-refused
unfolding grant
returns-then-refused c = convene_asked (domain_in c.args.d.now) _ _ _ (rw (sym c.at_limit.ensures ∙ c.if-at_limit.false) (convene_refused _ _ _ _ _ _ _ (sym c.in-Some.ensures) _ _ _ (rw c.unused-new.ensures at c.convene-a.ensures) (sym c.refused.ensures ∙ c.if-refused.true)))

pub returns : goal.returns
unfolding grant
returns c = convene_asked (domain_in c.args.d.now) _ _ _ (rw (sym c.at_limit.ensures ∙ c.if-at_limit.false) (convene_done _ _ _ _ _ _ _ (sym c.in-Some.ensures) _ _ _ (rw c.unused-new.ensures at c.convene-a.ensures) (sym c.refused.ensures ∙ c.if-refused.false) _ _ (rw c.unused-new.ensures at c.add.ensures) c.new_channel-ch.ensures))
