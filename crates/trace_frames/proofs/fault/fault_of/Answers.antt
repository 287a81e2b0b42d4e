-- `trace_frames::fault::fault_of` meets its contract. Assumes nothing.
use native.Mathlib.Omega.{arith}
use borrow.Author.Tests.{lt-ltb, le-ltb}
use lib.ListN.{length}
use Rattle.trace_frames.specs.Frames.{length_of}
use Rattle.trace_frames.specs.Fault.{fault_of}
use Rattle.trace_frames.proofs.fault.fault_of.Goals as goal

pub returns-then-s-lt2 : goal.returns-then-s-lt2
unfolding fault_of
returns-then-s-lt2 c = simp (lt-ltb (length c.args.s.now) 2 (omega arith))

pub returns-then-says-lt3 : goal.returns-then-says-lt3
unfolding fault_of
returns-then-says-lt3 c = let s = c.args.s.now in simp (le-ltb (length s) 2 (omega arith), lt-ltb (length_of s) 3 (omega arith))

pub returns : goal.returns
unfolding fault_of
returns c = let s = c.args.s.now in simp (le-ltb (length s) 2 (omega arith), le-ltb (length_of s) 3 (omega arith)) c.inside.ensures
