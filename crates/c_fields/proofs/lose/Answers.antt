-- The provider's own equation at this connection, and the answer's numbers.
use Rattle.std.proofs.Common.{◌∙◌}
use Rattle.c_fields.proofs.Links.{loses_same}
use Rattle.c_fields.proofs.lose.Goals as goal

pub returns : goal.returns
returns c = rw c.from.ensures.0 (rw c.from.ensures.1 (c.lose-a.ensures ∙ loses_same _ _ c.link_of.ensures))
