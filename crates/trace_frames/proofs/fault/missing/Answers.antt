-- `trace_frames::fault::missing` meets its contract. Assumes nothing.
use mathlib.Core.Path.{sym, ◌∙◌}
use Rattle.trace_frames.proofs.fault.missing.Goals as goal

pub returns-then-whole : goal.returns-then-whole
returns-then-whole c = simp (sym c.whole.ensures ∙ c.if-whole.true)

pub returns : goal.returns
returns c = simp (sym c.whole.ensures ∙ c.if-whole.false)
