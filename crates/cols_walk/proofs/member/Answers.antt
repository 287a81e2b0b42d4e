-- The library's test of one element is that of the definition, the other way round.
use mathlib.Core.Path.{◌∙◌}
use Rattle.cols_walk.proofs.Widths.{contained}
use Rattle.cols_walk.proofs.member.Goals as goal

pub returns : goal.returns
returns c = c.contains.ensures.value ∙ contained c.args.x c.args.ids.now
