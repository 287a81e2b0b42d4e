-- `trace_frames::whole` meets its contract: fewer than two octets are never a whole frame. Assumes nothing.
use mathlib.Core.Path.{sym}
use native.Mathlib.Omega.{arith}
use borrow.Author.Tests.{lt-leb}
use lib.ListN.{length}
use Rattle.trace_frames.specs.Frames.{size_of}
use Rattle.trace_frames.proofs.whole.Goals as goal

pub returns-then-s-lt2 : goal.returns-then-s-lt2
returns-then-s-lt2 c = let s = c.args.s.now in sym (lt-leb (size_of s) (length s) (omega arith))

pub overflow_add-size : goal.overflow_add-size
overflow_add-size c = omega (arith, c.shared_slice_known-3-1.given 0, c.shared_slice_known-3-1.given 1)

pub returns : goal.returns
returns c = rw c.following-size.ensures
