-- The shift marks how far behind `low` the id stands.
use Rattle.cols_spec.proofs.Gaps.{mark_near, mark_far}
use borrow.Author.Rules.{rules}
use Rattle.cols_walk.proofs.mark.Goals as goal

pub returns-then-k-lt64 : goal.returns-then-k-lt64
returns-then-k-lt64 c =
    let a = c.args in
    let b = c.behind-k in
    λ room. mark_near a.low a.x b.result room b.ensures.0 b.ensures.1 (search rules)

pub returns-else-k-lt64 : goal.returns-else-k-lt64
returns-else-k-lt64 c =
    let a = c.args in
    let b = c.behind-k in
    λ room. mark_far a.low a.x b.result room b.ensures.0 b.ensures.1 (search rules)
