use mathlib.Core.Path.{◌∙◌}
use Rattle.domain.specs.Tables.{name, link}
use Rattle.domain_tables.specs.Held.{users_in}
use Rattle.serve_leave_records.proofs.Parts.{refusal_put}
use Rattle.serve_leave_records.proofs.put_refusal.Goals as goal

pub returns : goal.returns
unfolding name link
returns c = let a = c.args in
    refusal_put (users_in a.users.now) a.gone a.k a.g a.r c.link.result c.from-n.result c.name.result c.from-s.result c.lose-h.result
    c.lose-h.ensures c.from-n.ensures c.name.ensures (c.from-s.ensures ∙ c.status.ensures) c.link.ensures c.token_confirm-m.ensures c.requires c.send.ensures
