-- The same over the ids that pass, at their own places.
use Prim.Native.Nat.{ℕ}
use native.Mathlib.Omega.{arith}
use mathlib.Core.Path.{sym, ◌∙◌}
use mathlib.Core.Bool.{Bool}
use lib.Dec.{eqb}
use lib.ListN.{get_or}
use borrow.Author.Rules.{rules}
use Rattle.cols_spec.proofs.Turns.{seek_start, seek_turn, seek_end}
use Rattle.cols_spec.proofs.Kept.{picked_length, picked_at}
use Rattle.cols_walk.proofs.next_where.Goals as goal

pub loop-i-init : goal.loop-i-init
loop-i-init c = (search rules, seek_start)

pub loop-i-preserved : goal.loop-i-preserved
loop-i-preserved c =
    let b = c.loop-i in
    let a = c.args in
    let k = c.behind in
    let x = c.if_so in
    let test : ℕ → Bool = λ j. eqb (get_or a.cells.now j 0) a.k in (
      b.invariant.0,
      seek_turn b.invariant.1 x.result k.result c.min-best.result (x.ensures.0 ∙ sym (picked_at test a.ids.now b.i))
          (search rules) (omega (arith, picked_length test 0 a.ids.now)) k.ensures.0 k.ensures.1 (λ h. omega arith) (λ h. omega arith),
    )

pub returns : goal.returns
returns c =
    let a = c.args in
    seek_end c.loop-i.invariant.1 c.ahead.result (omega (arith, picked_length (λ (j : ℕ). eqb (get_or a.cells.now j 0) a.k) 0 a.ids.now)) c.ahead.ensures.0 c.ahead.ensures.1
