-- `trace_io::input::clipped` meets its contract. Assumes nothing.
use native.Mathlib.Omega.{arith}
use Rattle.trace_io.proofs.Moves.{clip_in, none_in, clip_behind, clip_turned}
use Rattle.trace_io.proofs.input.clipped.Goals as goal

pub returns-then-have-room : goal.returns-then-have-room
returns-then-have-room c = let a = c.args in clip_in a.room a.have (omega arith) (omega arith)

pub returns-else-have-room : goal.returns-else-have-room
returns-else-have-room c = let a = c.args in (clip_behind a.room a.have (omega arith), none_in a.room a.have)

pub returns-else-have : goal.returns-else-have
returns-else-have c = let a = c.args in (clip_turned a.room a.have (omega arith), none_in a.room a.have)
