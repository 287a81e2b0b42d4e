use Prim.Native.Nat.{ℕ}
use mathlib.Core.Path.{◌≡◌}
use native.Mathlib.Omega.{arith}
use lib.ListN.{length}
use Rattle.explain_words.proofs.WordLaws.{front_start, front_dot, front_more, front_end}
use Rattle.explain_words.proofs.words.size_of.Goals as goal

pub loop-i-init : goal.loop-i-init
loop-i-init c = front_start

pub returns-then-row-i-eq46 : goal.returns-then-row-i-eq46
returns-then-row-i-eq46 c = front_dot c.loop-i.invariant c.loop-i-test.true c.if-row-i-eq46.true

pub loop-i-preserved : goal.loop-i-preserved
loop-i-preserved c = front_more c.loop-i.invariant c.loop-i-test.true c.if-row-i-eq46.false

pub returns : goal.returns
returns c =
    let all : c.loop-i.i ≡ length c.args.row.now = omega (arith, c.loop-i-test.false, c.loop-i.auto.i-end) in
    rw all at (front_end c.loop-i.invariant c.loop-i-test.false)
