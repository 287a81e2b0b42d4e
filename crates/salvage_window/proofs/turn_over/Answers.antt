-- `salvage_window::turn_over` meets its contract. Assumes nothing.
use mathlib.Core.Path.{◌∙◌}
use Rattle.salvage_window.proofs.Answers.{in_cut, expecting}
use Rattle.salvage_window.proofs.turn_over.Goals as goal

pub returns-then-cutting : goal.returns-then-cutting
returns-then-cutting c = c.pass.ensures ∙ in_cut c.args.ended c.args.window.now c.args.cutting c.if-cutting.true

pub returns : goal.returns
returns c = c.expect.ensures ∙ expecting c.args.ended c.args.window.now c.args.cutting c.if-cutting.false
