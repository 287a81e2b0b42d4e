-- What is left to lay from here is all of it from the start.
use Prim.Native.Nat.{◌+◌}
use mathlib.Core.Path.{refl, sym, ◌∙◌}
use native.Mathlib.Nat.{add-zero}
use native.Mathlib.Omega.{arith}
use lib.ListN.{length-set}
use Rattle.salvage.proofs.Laying.{sets_on, sets_done}
use Rattle.salvage.proofs.lay.Goals as goal

pub loop-i-init : goal.loop-i-init
loop-i-init c = (refl, rw add-zero refl)

pub loop-i-preserved : goal.loop-i-preserved
loop-i-preserved c =
    let a = c.args in
    (simp length-set (omega arith), sets_on c.loop-i.room a.at c.loop-i.i a.os.now (omega arith) ∙ c.loop-i.invariant.1)

pub returns : goal.returns
returns c =
    let b = c.loop-i in
    let a = c.args in
    sym (sets_done b.room (a.at + b.i) b.i a.os.now (omega arith)) ∙ b.invariant.1
