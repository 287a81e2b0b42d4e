use mathlib.Core.Path.{sym}
use Rattle.serve_private.proofs.Managing.{manages_nobody, manages_nowhere, manages_yes, manages_no}
use Rattle.serve_private.proofs.managed.Goals as goal

pub returns-in_err-i : goal.returns-in_err-i
returns-in_err-i c = λ go. rw c.from_residual.ensures (manages_nobody _ _ _ _ _ (sym c.in_err-i.ensures) go)

pub returns-in_err-j : goal.returns-in_err-j
returns-in_err-j c = λ go. rw c.from_residual-in_err-j.ensures (manages_nowhere _ _ _ _ _ _ (sym c.in_ok-i.ensures) go (sym c.in_err-j.ensures))

pub returns-then-presides : goal.returns-then-presides
returns-then-presides c = λ go. manages_yes _ _ _ _ _ _ (sym c.in_ok-i.ensures) go _ (sym c.in_ok-j.ensures) _ c.at.ensures (c.presides.ensures.yes c.if-presides.true)

pub returns : goal.returns
returns c = λ go. manages_no _ _ _ _ _ _ (sym c.in_ok-i.ensures) go _ (sym c.in_ok-j.ensures) _ c.at.ensures (c.presides.ensures.no c.if-presides.false)
