-- `explain_frame::put_front` meets its contract, by what stands there. Assumes nothing.
use Rattle.explain_frame.proofs.FrameLaws.{front_over, front_bad, front_good}
use Rattle.trace_frames.specs.Frames.{meaning}
use Rattle.trace_frames.proofs.Laws.{inside}
use Rattle.explain_words.specs.Letters.{ascii}
use native.Mathlib.Omega.{arith}
use mathlib.Core.Path.{sym, ap, ◌∙◌}
use Rattle.explain_frame.proofs.put_front.Goals as goal

pub returns-then-s-size : goal.returns-then-s-size
returns-then-s-size g c = absurd (omega (arith, (inside c.args.s.now _ _ _ _ (sym (ap meaning (sym c.in-Good.is) ∙ c.next_frame-found.ensures))).1))

pub returns-then-size-start : goal.returns-then-size-start
returns-then-size-start g c = absurd (omega (arith, (inside c.args.s.now _ _ _ _ (sym (ap meaning (sym c.in-Good.is) ∙ c.next_frame-found.ensures))).0))

pub returns-in-End : goal.returns-in-End
unfolding ascii
returns-in-End g c = front_over c.args.reply c.args.s.now (ap meaning (sym c.in-End.is) ∙ c.next_frame-found.ensures) c.say.ensures

pub returns-in-Bad : goal.returns-in-Bad
returns-in-Bad g c = front_bad c.args.reply c.args.s.now (ap meaning (sym c.in-Bad.is) ∙ c.next_frame-found.ensures) c.put_bad.ensures

pub returns-else-size-start : goal.returns-else-size-start
returns-else-size-start g c = front_good c.args.reply c.args.s.now _ _ _ _ (ap meaning (sym c.in-Good.is) ∙ c.next_frame-found.ensures) c.put_good.ensures
