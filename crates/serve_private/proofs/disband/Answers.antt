use mathlib.Core.Path.{sym, ◌∙◌}
use borrow.Author.Rules.{rules}
use Rattle.domain_tables.specs.Held.{domain_in}
use Rattle.serve_reply.proofs.Sending.{many_sent, whole_sends}
use Rattle.serve_private.proofs.Managing.{disband_asked, disband_ignored, disband_refused, disband_done}
use Rattle.serve_private.proofs.disband.Goals as goal

pub returns-in_default : goal.returns-in_default
returns-in_default c = rw c.ignored.ensures (disband_asked (domain_in c.args.d.now) _ _ _ _ (disband_ignored _ _ _ _ _ _ c.in_default.ensures))

pub returns-then-refused : goal.returns-then-refused
returns-then-refused c = disband_asked (domain_in c.args.d.now) _ _ _ _ (disband_refused _ _ _ _ _ _ _ c.in-Some.ensures _ c.at-ch.ensures _ c.homes_of-mask.ensures _ _ _ (c.tell-a.ensures ∙ whole_sends _ _ _ (many_sent _ _ c.disband_indication-m.ensures (search rules) _)) (sym c.refused.ensures ∙ c.if-refused.true))

pub returns : goal.returns
returns c = disband_asked (domain_in c.args.d.now) _ _ _ _ (disband_done _ _ _ _ _ _ _ c.in-Some.ensures _ c.at-ch.ensures _ c.homes_of-mask.ensures _ _ _ (c.tell-a.ensures ∙ whole_sends _ _ _ (many_sent _ _ c.disband_indication-m.ensures (search rules) _)) (sym c.refused.ensures ∙ c.if-refused.false) _ c.end.ensures)
