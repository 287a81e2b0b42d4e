-- What is left to look at decides, from the least so far.
use mathlib.Core.Path.{refl}
use native.Mathlib.Omega.{arith}
use lib.ListN.{get_or}
use borrow.Author.Rules.{rules}
use Rattle.cols_spec.proofs.Turns.{seek_start, seek_turn, seek_end}
use Rattle.cols_walk.proofs.next.Goals as goal

pub loop-x-init : goal.loop-x-init
loop-x-init c = seek_start

pub loop-x-preserved : goal.loop-x-preserved
loop-x-preserved c =
    let b = c.loop-x in
    let a = c.args in
    let k = c.behind in
    seek_turn b.invariant (get_or a.ids.now b.x-index 0) k.result c.min-best.result refl
    (omega (arith, c.type_inv.ids b.x-index)) (search rules) k.ensures.0 k.ensures.1 (λ h. omega arith) (λ h. omega arith)

pub returns : goal.returns
returns c = seek_end c.loop-x.invariant c.ahead.result (search rules) c.ahead.ensures.0 c.ahead.ensures.1
