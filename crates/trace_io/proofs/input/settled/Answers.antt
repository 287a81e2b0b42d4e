-- `trace_io::input::settled` meets its contract. Assumes nothing.
use Rattle.trace_io.proofs.input.settled.Goals as goal

pub returns : goal.returns
returns c = rw c.if-have.false c.whole.ensures
