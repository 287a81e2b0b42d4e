use mathlib.Core.Path.{sym, ap, ◌∙◌}
use Rattle.domain.specs.Tables.{grant}
use Rattle.serve_channels.proofs.Entering.{new_unknown, new_full, new_assigned, new_static}
use Rattle.serve_channels.proofs.join_new.Goals as goal
use Rattle.serve_channels.proofs.join_new.Goals.{then-ask-eq0, else-ask-eq0}

pub returns-then-ask-gt1000 : goal.returns-then-ask-gt1000
returns-then-ask-gt1000 c = new_unknown _ _ _ _ _ _ _ _ _ _ c.if-ask-gt1000.true c.confirm.ensures

pub returns-then-at_limit : goal.returns-then-at_limit
returns-then-at_limit c = new_full _ _ _ _ _ _ _ _ _ _ c.if-ask-gt1000.false (sym c.at_limit.ensures ∙ c.if-at_limit.true) c.confirm-then-at_limit.ensures

pub returns : goal.returns
unfolding grant
returns c =
    let low = c.if-ask-gt1000.false in
    let free = sym c.at_limit.ensures ∙ c.if-at_limit.false in
    elim c.if-ask-eq0.branch [
      | then-ask-eq0 w ↦ new_assigned _ _ _ _ _ _ low free _ _ _ _ c.start.ensures w.if-ask-eq0.true (ap (λ t. t.0) w.kind-is) (ap (λ t. t.1) w.kind-is ∙ w.unused.ensures)
      | else-ask-eq0 w ↦ new_static _ _ _ _ _ _ low free _ _ _ _ c.start.ensures w.if-ask-eq0.false (ap (λ t. t.0) w.kind-is) (ap (λ t. t.1) w.kind-is)
    ]
