-- The provider's own equation at this connection, on any limit of users equal to the domain's, and the answer's numbers.
use Rattle.std.proofs.Common.{◌∙◌}
use mathlib.Core.Path.{refl}
use native.Mathlib.Omega.{arith}
use Rattle.domain.specs.Events.{hears}
use Rattle.domain.proofs.Lending.{Call, event, put_back}
use Rattle.serve_read.specs.Understood.{understood}
use Rattle.c_fields.proofs.Links.{hears_same}
use Rattle.c_fields.proofs.message.Goals as goal

pub returns : goal.returns
returns c =
    let a = c.args in
    let done = event (hears a.p (understood a.octets.now)) a.out.now in
    let made : Call done _ _ _ = record { on = _; left = _; ends = c.message-a.ensures ∙ hears_same _ _ _ c.link_of.ensures } in
    rw c.from.ensures.0 (rw c.from.ensures.1 (put_back done _ _ made refl refl (omega arith) (λ h. omega (arith, h))))
