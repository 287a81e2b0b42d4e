-- The loop looks at one place after the other.
use native.Mathlib.Omega.{arith}
use borrow.Author.Rules.{rules}
use Rattle.cols_find.proofs.Looked.{looked_at_none, looked_at_next, looked_at_all}
use Rattle.cols_find.proofs.among.Goals as goal

pub loop-k-init : goal.loop-k-init
loop-k-init c = looked_at_none

pub loop-k-preserved : goal.loop-k-preserved
loop-k-preserved c =
    looked_at_next c.loop-k.invariant (search rules) (search rules) c.if_so.ensures (λ h. omega arith, λ h. omega arith)

pub returns : goal.returns
returns c = (search rules, looked_at_all c.loop-k.invariant (search rules))
