-- `trace_frames::fault::behind` meets its contract: only a message has octets. Assumes nothing.
use mathlib.Core.Bool.{or-true}
use native.Mathlib.Omega.{arith}
use borrow.Author.Tests.{eq-eqb, ne_eqb, le-leb, lt-leb}
use Rattle.trace_frames.specs.Frames.{length_of, kind_of}
use Rattle.trace_frames.proofs.fault.behind.Goals as goal

pub returns-then-kind-eq2 : goal.returns-then-kind-eq2
returns-then-kind-eq2 c = let s = c.args.s.now in simp (eq-eqb (kind_of s) 2 (omega arith)) c.missing.ensures

pub returns-then-says-gt3 : goal.returns-then-says-gt3
returns-then-says-gt3 c = let s = c.args.s.now in simp (ne_eqb (kind_of s) 2 (λ e. omega arith), lt-leb (length_of s) 3 (omega arith))

pub returns : goal.returns
returns c = let s = c.args.s.now in simp (le-leb (length_of s) 3 (omega arith), or-true) c.missing-2.ensures
