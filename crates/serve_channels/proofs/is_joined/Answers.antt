use mathlib.Core.Path.{sym}
use Rattle.serve_channels.proofs.Parting.{joined_at, joined_nowhere}
use Rattle.serve_channels.proofs.is_joined.Goals as goal

pub returns-in-Some : goal.returns-in-Some
returns-in-Some c = joined_at _ _ _ _ _ _ (sym c.in-Some.ensures) c.at.ensures c.has.ensures

pub returns-in-None : goal.returns-in-None
returns-in-None c = joined_nowhere _ _ _ (sym c.in-None.ensures)
