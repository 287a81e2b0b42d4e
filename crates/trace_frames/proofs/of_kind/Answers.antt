-- `trace_frames::of_kind` meets its contract: a frame with octets is a message or bad. Assumes nothing.
use mathlib.Core.Path.{refl, sym, ◌∙◌}
use mathlib.Core.Logic.{inl, inr}
use native.Mathlib.Omega.{arith}
use Rattle.trace_frames.proofs.Laws.{kind_known, kind_bad}
use Rattle.trace_frames.proofs.of_kind.Goals as goal

pub returns-then-size-eq5 : goal.returns-then-size-eq5
returns-then-size-eq5 c = rw c.if-size-eq5.true c.bare.ensures

pub returns-then-kind-ne2 : goal.returns-then-kind-ne2
returns-then-kind-ne2 c =
    let a = c.args in
    sym (kind_bad a.kind a.connection a.size (inr (λ e. omega arith, λ e. omega arith)))

pub returns : goal.returns
returns c =
    let a = c.args in
    c.framed.ensures ∙ kind_known 2 a.kind a.connection a.size (omega arith) (omega arith) (inl refl)
