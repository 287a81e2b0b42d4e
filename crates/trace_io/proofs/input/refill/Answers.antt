-- `trace_io::input::refill` meets its contract: a read changes only what stands behind the octets that were moved. Assumes nothing.
use native.Mathlib.Omega.{arith}
use Rattle.trace_io.proofs.Moves.{refilled}
use Rattle.trace_io.proofs.input.refill.Goals as goal

pub returns : goal.returns
returns g c =
    let a = c.args in
    let f = c.to_front-n in
    refilled a.buf.now a.have f.new.buf c.read_once-more.new.room _ f.result c.read_once-more.result
    f.ensures.0
    f.ensures.1
    (omega arith)
    (omega arith)
