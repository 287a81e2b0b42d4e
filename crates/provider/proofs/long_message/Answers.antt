use mathlib.Core.Path.{refl, ◌∙◌}
use Rattle.domain.proofs.Turning.{open_served, open_refused}
use Rattle.serve_read.specs.Understood.{understood}
use Rattle.serve_read.proofs.Understanding.{refused_asks, listed_asks}
use Rattle.domain_tables.specs.Held.{domain_in}
use Rattle.provider.proofs.long_message.Goals as goal

pub returns-in-Ok : goal.returns-in-Ok
returns-in-Ok c =
    let a = c.args in
    let os = a.octets.now in
    c.listed_request.ensures
    ∙ open_served (domain_in a.d.now) a.p a.out.now _ refl c.requires.in_use (understood os) _
    (c.in-Ok.ensures c.requires.not_brief _ (domain_in a.d.now) a.p _ ∙ listed_asks _ (domain_in a.d.now) a.p _ os _ c.in-Ok.q)

pub returns-in-Err : goal.returns-in-Err
returns-in-Err c =
    let a = c.args in
    let os = a.octets.now in
    c.refuse.ensures _
    ∙ open_refused (domain_in a.d.now) a.p a.out.now _ refl c.requires.in_use (understood os) _ _
    (c.in-Err.ensures c.requires.not_brief _ (domain_in a.d.now) a.p _ ∙ refused_asks _ (domain_in a.d.now) a.p _ os _ c.in-Err.reply)
