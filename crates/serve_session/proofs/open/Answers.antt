use mathlib.Core.Path.{sym, ◌∙◌}
use Rattle.domain.proofs.Turning.{opens_none, opens_again, opens_done}
use Rattle.serve_session.proofs.open.Goals as goal

pub returns-then-p-gt15 : goal.returns-then-p-gt15
returns-then-p-gt15 c = λ d out. opens_none d _ _ out c.if-p-gt15.true

pub returns-then-has : goal.returns-then-has
returns-then-has c = λ d out. opens_again d _ _ out c.if-p-gt15.false (sym c.has.ensures ∙ c.if-has.true)

pub returns : goal.returns
returns c = λ d out. rw c.with.ensures (opens_done d _ _ out c.if-p-gt15.false (sym c.has.ensures ∙ c.if-has.false))
