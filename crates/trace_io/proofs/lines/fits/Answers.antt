-- `trace_io::lines::fits` meets its contract. Assumes nothing.
use Prim.Native.Nat.{◌+◌}
use mathlib.Core.Path.{sym}
use native.Mathlib.Omega.{arith}
use borrow.Author.Tests.{lt-leb}
use Rattle.trace_io.proofs.Texts.{behind}
use Rattle.trace_io.proofs.lines.fits.Goals as goal

pub returns-then-room-size : goal.returns-then-room-size
returns-then-room-size c = let a = c.args in sym (lt-leb (a.filled + a.size) a.room (omega arith))

pub returns : goal.returns
returns c = let a = c.args in behind a.filled a.size a.room (omega arith)
