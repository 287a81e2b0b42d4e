use mathlib.Core.Path.{sym}
use Rattle.domain_tables.specs.Held.{domain_in}
use Rattle.serve_channels.proofs.Entering.{join_asked, join_nobody, join_found, join_unfound}
use Rattle.serve_channels.proofs.join.Goals as goal

pub returns-in_default : goal.returns-in_default
returns-in_default c = rw c.ignored.ensures (join_asked (domain_in c.args.d.now) _ _ _ _ (join_nobody _ _ _ _ _ _ _ _ (sym c.in_default.ensures)))

pub returns-in-Some-find : goal.returns-in-Some-find
returns-in-Some-find c = let a = c.args in
    join_asked (domain_in a.d.now) a.p a.u a.c _ (join_found _ _ _ _ a.p a.u a.c _ _ (sym c.in-Some.ensures) _ _ (sym c.in-Some-find.ensures) c.join_at.ensures)

pub returns-in-None : goal.returns-in-None
returns-in-None c = let a = c.args in
    join_asked (domain_in a.d.now) a.p a.u a.c _ (join_unfound _ _ _ _ a.p a.u a.c _ _ (sym c.in-Some.ensures) _ (sym c.in-None.ensures) c.join_new.ensures)
