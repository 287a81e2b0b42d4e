-- `trace_io::input::to_front` meets its contract. The loop's invariant: the first i octets are moved, and nothing else has changed. Assumes nothing.
use Prim.Native.Nat.{◌-◌}
use mathlib.Core.Path.{◌≡◌, refl}
use native.Mathlib.Omega.{arith}
use lib.ListN.{length-set}
use Rattle.trace_io.proofs.Moves.{moved_on, moved_front}
use Rattle.trace_io.proofs.input.to_front.Goals as goal

pub returns-then-from-eq0 : goal.returns-then-from-eq0
returns-then-from-eq0 c = (refl, rw c.if-from-eq0.true refl)

pub loop-i-init : goal.loop-i-init
loop-i-init c = (omega arith, refl, refl)

pub overflow_add-buf : goal.overflow_add-buf
overflow_add-buf c = omega arith

pub bounds-buf-from : goal.bounds-buf-from
bounds-buf-from c = omega arith

pub bounds-buf-i : goal.bounds-buf-i
bounds-buf-i c = omega arith

pub overflow_add-i : goal.overflow_add-i
overflow_add-i c = omega arith

pub loop-i-smaller : goal.loop-i-smaller
loop-i-smaller c = omega arith

pub loop-i-preserved : goal.loop-i-preserved
loop-i-preserved c =
    let a = c.args in (
      omega arith,
      simp length-set (omega arith),
      rw c.loop-i.invariant.2 (moved_on a.buf.now a.from c.loop-i.i (omega arith)),
    )

pub shape_of-buf : goal.shape_of-buf
shape_of-buf c = omega arith

pub returns : goal.returns
returns c =
    let a = c.args in
    let e : c.loop-i.i ≡ a.to - a.from = omega arith in (
      refl,
      rw (c.loop-i.invariant.2, e) (moved_front a.buf.now a.from (a.to - a.from) (omega arith)),
    )
