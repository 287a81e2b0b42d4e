-- `trace_io::input::to_start` meets its contract. Assumes nothing.
use mathlib.Core.Path.{ap, ◌∙◌}
use native.Mathlib.Omega.{arith}
use Rattle.trace_io.specs.Input.{unread}
use Rattle.trace_io.proofs.input.to_start.Goals as goal

pub returns : goal.returns
returns c = let a = c.args in
    let k = c.clipped-span in
    let f = c.to_front in
    record { inside = omega (arith, k.ensures.1); kept = f.ensures.1 ∙ ap (unread a.buf.now) k.ensures.0 }
