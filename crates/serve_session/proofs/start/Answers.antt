use mathlib.Core.Path.{refl, sym, ◌∙◌}
use native.Mathlib.Omega.{arith}
use Rattle.domain.specs.Tables.{fresh, channel_cells, token_cells}
use Rattle.domain.specs.Outcomes.{begun}
use Rattle.serve_session.proofs.Limiting.{in_range_most}
use Rattle.serve_session.proofs.start.Goals as goal

pub returns-then-not-in_range : goal.returns-then-not-in_range
unfolding begun
returns-then-not-in_range c = rw (sym c.in_range.ensures ∙ c.if-not-in_range.true) refl

pub overflow_cast-d : goal.overflow_cast-d
overflow_cast-d c = let m = in_range_most _ _ _ _ c.in_range.ensures c.if-not-in_range.false in omega arith

pub overflow_cast-d-2 : goal.overflow_cast-d-2
overflow_cast-d-2 c = let m = in_range_most _ _ _ _ c.in_range.ensures c.if-not-in_range.false in omega arith

pub overflow_cast-d-3 : goal.overflow_cast-d-3
overflow_cast-d-3 c = let m = in_range_most _ _ _ _ c.in_range.ensures c.if-not-in_range.false in omega arith

pub returns : goal.returns
unfolding begun fresh channel_cells token_cells
returns c = rw (sym c.in_range.ensures ∙ c.if-not-in_range.false) refl
