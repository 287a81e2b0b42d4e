-- `trace_frames::bare` meets its contract: each arm's number is a kind that a frame with no octets may have. Assumes nothing.
use mathlib.Core.Path.{refl, sym, ◌∙◌}
use mathlib.Core.Logic.{inl, inr}
use native.Mathlib.Omega.{arith}
use Rattle.trace_frames.proofs.Laws.{kind_known, kind_bad}
use Rattle.trace_frames.proofs.bare.Goals as goal

pub returns-in-0 : goal.returns-in-0
returns-in-0 c =
    let a = c.args in
    c.framed.ensures ∙ kind_known 0 a.kind a.connection 5 (omega arith) (omega arith) (inr refl)

pub returns-in-1 : goal.returns-in-1
returns-in-1 c =
    let a = c.args in
    c.framed-in-1.ensures ∙ kind_known 1 a.kind a.connection 5 (omega arith) (omega arith) (inr refl)

pub returns-in-2 : goal.returns-in-2
returns-in-2 c =
    let a = c.args in
    c.framed-in-2.ensures ∙ kind_known 2 a.kind a.connection 5 (omega arith) (omega arith) (inr refl)

pub returns-in_default : goal.returns-in_default
returns-in_default c = let a = c.args in sym (kind_bad a.kind a.connection 5 (inl (omega arith)))
