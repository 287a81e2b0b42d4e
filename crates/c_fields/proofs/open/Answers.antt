-- The provider's own equation at these tables and this connection, and the reply's number.
use Rattle.std.proofs.Common.{◌∙◌}
use Rattle.domain_tables.specs.Held.{domain_in}
use Rattle.c_fields.proofs.Links.{opens_same}
use Rattle.c_fields.proofs.open.Goals as goal

pub returns : goal.returns
returns c = λ out. rw c.from.ensures (c.open-reply.ensures (domain_in c.args.d.now) out ∙ opens_same _ out c.link_of.ensures)
