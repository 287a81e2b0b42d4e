-- `trace_io::lines::lay` meets its contract. The loop's invariant: what is left to lay from here is all of the text from the start. Assumes nothing.
use borrow.Author.Rules.{rules}
use Prim.Native.Nat.{◌+◌}
use mathlib.Core.Path.{refl, sym, ◌∙◌}
use native.Mathlib.Nat.{add-zero}
use native.Mathlib.Omega.{arith}
use lib.ListN.{length-set}
use Rattle.trace_io.proofs.Texts.{sets_on, sets_done}
use Rattle.trace_io.proofs.lines.lay.Goals as goal

pub loop-i-init : goal.loop-i-init
loop-i-init c = (search rules, refl, rw add-zero refl)

pub bounds-text-i : goal.bounds-text-i
bounds-text-i c = omega arith

pub overflow_add-out : goal.overflow_add-out
overflow_add-out c = omega arith

pub bounds-out-at : goal.bounds-out-at
bounds-out-at c = omega arith

pub overflow_add-i : goal.overflow_add-i
overflow_add-i c = omega arith

pub loop-i-smaller : goal.loop-i-smaller
loop-i-smaller c = omega arith

pub loop-i-preserved : goal.loop-i-preserved
loop-i-preserved c =
    let a = c.args in (
      omega arith,
      simp length-set (omega arith),
      sets_on c.loop-i.out a.at c.loop-i.i a.text.now (omega arith) ∙ c.loop-i.invariant.2,
    )

pub shape_of-out : goal.shape_of-out
shape_of-out c = omega arith

pub returns : goal.returns
returns c =
    let b = c.loop-i in
    let a = c.args in
    sym (sets_done b.out (a.at + b.i) b.i a.text.now (omega arith)) ∙ b.invariant.2
