use mathlib.Core.Path.{ap, ◌∙◌}
use Rattle.domain.specs.Tables.{hosts}
use Rattle.serve_private.proofs.homes_of.Goals as goal

pub returns : goal.returns
returns c = c.hosts.ensures ∙ ap (hosts _) c.with.ensures
