-- `salvage_window::lead` meets its contract. Assumes nothing.
use mathlib.Core.Path.{◌∙◌}
use Rattle.salvage_window.proofs.Standing.{capped_min}
use Rattle.salvage_window.proofs.lead.Goals as goal

pub returns-then-p : goal.returns-then-p
returns-then-p c = rw (c.if-p.true, c.saturating_add-at.ensures ∙ capped_min _)

pub returns : goal.returns
returns c = rw (c.if-p.false, c.saturating_add-at.ensures ∙ capped_min _)
