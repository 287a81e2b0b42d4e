-- `salvage::pass` meets its contract. The loop's invariant: laying what is left from here on is laying all of it from the start. Assumes nothing.
use native.Mathlib.Omega.{arith}
use Rattle.salvage.proofs.StepLaws.{sofar_start, sofar_on, sofar_end}
use borrow.Author.Rules.{rules}
use Rattle.salvage.proofs.pass.Goals as goal

pub loop-p-init : goal.loop-p-init
loop-p-init c = sofar_start _ _ _

pub loop-p-smaller : goal.loop-p-smaller
loop-p-smaller c = omega (arith, c.step-p.ensures.on)

pub loop-p-preserved : goal.loop-p-preserved
loop-p-preserved c =
    sofar_on (omega arith) c.loop-p.invariant c.step-p.ensures (search rules) (search rules)

pub returns : goal.returns
returns c = sofar_end (omega arith) c.loop-p.invariant
