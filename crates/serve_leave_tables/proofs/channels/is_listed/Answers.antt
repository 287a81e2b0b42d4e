use mathlib.Core.Path.{◌≡◌, refl, ◌∙◌}
use mathlib.Core.Bool.{true, ◌&&◌}
use Prim.Native.Nat.{ℕ, ◌+◌, ◌-◌, ◌<◌}
use native.Mathlib.Omega.{arith}
use lib.Dec.{ltb}
use borrow.Author.Tests.{ltb-true}
use Rattle.cols_spec.proofs.Bools.{and_parts}
use Rattle.cols_spec.proofs.Gaps.{has_marked}
-- the test of the code
use Rattle.serve_leave_tables.proofs.channels.is_listed.Goals as goal

within : (x : ℕ) → (ltb 1000 x && ltb x 1065) ≡ true → (1000 < x) × (x < 1065)
within x t = let both = and_parts (ltb 1000 x) (ltb x 1065) t in (ltb-true 1000 x both.0, ltb-true x 1065 both.1)

pub overflow_sub-c : goal.overflow_sub-c
overflow_sub-c c = omega (arith, within c.args.c c.if-c.true)

pub overflow_cast-c : goal.overflow_cast-c
overflow_cast-c c = omega (arith, within c.args.c c.if-c.true)

pub returns-then-c : goal.returns-then-c
returns-then-c c = let a = c.args in
    let w = within a.c c.if-c.true in
    let here : 1001 + (a.c - 1001) ≡ a.c = omega arith in
    λ _. c.has.ensures ∙ rw (c.requires, has_marked 1000 a.list.now (a.c - 1001) (omega arith), here) refl

pub returns-then-role-ne2 : goal.returns-then-role-ne2
returns-then-role-ne2 c = λ e. absurd (omega arith)
