-- Free places have no marks.
use Prim.Native.Nat.{ℕ, ◌+◌, ◌-◌}
use mathlib.Core.Path.{◌≡◌, ap, ◌∙◌}
use native.Mathlib.Omega.{arith}
use lib.ListN.{take, drop}
use Rattle.cols_spec.specs.Sets.{ids_above}
use Rattle.cols_spec.proofs.Gaps.{marked_free}
use Rattle.cols_walk.proofs.marks_of_eight.Goals as goal

pub returns-then-row_of_eight : goal.returns-then-row_of_eight
returns-then-row_of_eight c =
    let a = c.args in
    marked_free a.low a.ids.now a.i 8 (c.row_of_eight.ensures c.if-row_of_eight.true)

pub returns : goal.returns
returns c =
    let a = c.args in
    let e : a.i + 8 - a.i ≡ 8 = omega arith in
    c.marks_of.ensures ∙ ap (λ (n : ℕ). ids_above a.low (take n (drop a.i a.ids.now))) e
