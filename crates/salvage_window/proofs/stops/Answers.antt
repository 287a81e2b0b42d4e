-- `salvage_window::stops` meets its contract. Assumes nothing.
use mathlib.Core.Path.{sym, ◌∙◌}
use Rattle.salvage_window.proofs.Turns.{stops_is, stops_short}
use Rattle.salvage_window.proofs.stops.Goals as goal

pub returns-then-decided : goal.returns-then-decided
returns-then-decided c = c.resumes.ensures ∙ sym (stops_is c.args.ended c.args.w.now (sym c.decided.ensures ∙ c.if-decided.true))

pub returns : goal.returns
returns c = sym (stops_short c.args.ended c.args.w.now (sym c.decided.ensures ∙ c.if-decided.false))
