-- The places passed are counted.
use Prim.Native.Nat.{ℕ, ◌+◌}
use mathlib.Core.Path.{ap₂, refl, sym, ◌∙◌}
use mathlib.Core.List.{[], ◌∷◌}
use native.Mathlib.Omega.{arith}
use native.Mathlib.Numerals.{add-one}
use lib.ListN.{get_or}
use borrow.Author.Rules.{rules}
use Rattle.cols_spec.specs.Sets.{keep}
use Rattle.cols_spec.specs.Places.{used}
use Rattle.cols_spec.proofs.Turns.{used_turn, used_end, used_within}
use Rattle.cols_find.proofs.used_of.Goals as goal

pub loop-x-init : goal.loop-x-init
unfolding used keep
loop-x-init c = (search rules, search rules, refl)

pub overflow_add-k : goal.overflow_add-k
overflow_add-k c =
    let b = c.loop-x in
    omega (arith, c.in_use-k.ensures, used_within (get_or c.args.ids.now b.x-index 0 ∷ []))

pub loop-x-preserved : goal.loop-x-preserved
loop-x-preserved c =
    let b = c.loop-x in
    let ids = c.args.ids.now in
    let one = used_within (get_or ids b.x-index 0 ∷ []) in (
      search rules,
      omega (arith, c.in_use-k.ensures, one),
      ap₂ (λ (x y : ℕ). x + y) b.invariant.2 c.in_use-k.ensures ∙ sym (rw add-one (used_turn ids b.x-index (search rules))),
    )

pub returns : goal.returns
returns c = c.loop-x.invariant.2 ∙ used_end c.args.ids.now c.loop-x.x-index (search rules)
