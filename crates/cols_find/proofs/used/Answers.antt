-- The places passed are counted.
use Prim.Native.Nat.{ℕ, ◌+◌, ◌-◌}
use mathlib.Core.Path.{ap₂, ◌≡◌, refl, sym, ◌∙◌}
use native.Mathlib.Omega.{arith}
use lib.ListN.{length-take, length-drop}
use borrow.Author.Rules.{rules}
use Rattle.cols_spec.specs.Sets.{keep}
use Rattle.cols_spec.specs.Places.{used}
use Rattle.cols_spec.proofs.Turns.{used_part, part_within, used_end}
use Rattle.cols_find.proofs.used.Goals as goal

pub loop-i-init : goal.loop-i-init
unfolding used keep
loop-i-init c = (search rules, search rules, refl)

pub used_of-requires : goal.used_of-requires
used_of-requires c = simp (length-take, length-drop) (omega arith)

pub overflow_add-n : goal.overflow_add-n
overflow_add-n c =
    let b = c.loop-i in
    let ids = c.args.ids.now in
    let to = c.part_end-to in
    omega (arith, b.invariant.1, to.ensures, c.used_of.ensures, part_within ids b.i (to.result - b.i))

pub loop-i-smaller : goal.loop-i-smaller
loop-i-smaller c = omega (arith, c.part_end-to.ensures.3 (omega arith))

pub loop-i-preserved : goal.loop-i-preserved
loop-i-preserved c =
    let b = c.loop-i in
    let ids = c.args.ids.now in
    let to = c.part_end-to in
    let e : b.i + (to.result - b.i) ≡ to.result = omega (arith, to.ensures.2) in (
      search rules,
      omega (arith, b.invariant.1, to.ensures.2, c.used_of.ensures, part_within ids b.i (to.result - b.i)),
      ap₂ (λ (x y : ℕ). x + y) b.invariant.2 c.used_of.ensures ∙ sym (rw e at (used_part ids b.i (to.result - b.i))),
    )

pub returns : goal.returns
returns c = c.loop-i.invariant.2 ∙ used_end c.args.ids.now c.loop-i.i (search rules)
