-- `salvage_window::sure` meets its contract. Assumes nothing.
use mathlib.Core.Path.{sym, ap, ◌∙◌}
use Rattle.trace_frames.specs.Good.{some_size}
use Rattle.salvage_window.proofs.Turns.{sure_is, sure_not}
use Rattle.salvage_window.proofs.sure.Goals as goal

pub returns-then-decided : goal.returns-then-decided
returns-then-decided c = c.good_size.ensures ∙ ap some_size (sym (sure_is c.args.ended c.args.w.now (sym c.decided.ensures ∙ c.if-decided.true)))

pub returns : goal.returns
returns c = ap some_size (sym (sure_not c.args.ended c.args.w.now (sym c.decided.ensures ∙ c.if-decided.false)))
