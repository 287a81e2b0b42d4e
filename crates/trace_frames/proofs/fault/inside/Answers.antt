-- `trace_frames::fault::inside` meets its contract. Assumes nothing.
use native.Mathlib.Omega.{arith}
use borrow.Author.Tests.{eq-eqb, ne_eqb, le-leb, lt-leb, lt-ltb, le-ltb}
use lib.ListN.{length}
use Rattle.trace_frames.specs.Frames.{version_of, kind_of}
use Rattle.trace_frames.proofs.fault.inside.Goals as goal

pub returns-then-s-lt3 : goal.returns-then-s-lt3
returns-then-s-lt3 c = simp (lt-ltb (length c.args.s.now) 3 (omega arith))

pub returns-then-version-ne1 : goal.returns-then-version-ne1
returns-then-version-ne1 c = let s = c.args.s.now in simp (le-ltb (length s) 3 (omega arith), ne_eqb (version_of s) 1 (λ e. omega arith))

pub returns-then-s-lt4 : goal.returns-then-s-lt4
returns-then-s-lt4 c = let s = c.args.s.now in simp (le-ltb (length s) 3 (omega arith), eq-eqb (version_of s) 1 (omega arith), lt-ltb (length s) 4 (omega arith))

pub returns-then-kind-gt2 : goal.returns-then-kind-gt2
returns-then-kind-gt2 c = let s = c.args.s.now in simp (le-ltb (length s) 3 (omega arith), eq-eqb (version_of s) 1 (omega arith), le-ltb (length s) 4 (omega arith), lt-leb (kind_of s) 2 (omega arith))

pub returns : goal.returns
returns c = let s = c.args.s.now in simp (le-ltb (length s) 3 (omega arith), eq-eqb (version_of s) 1 (omega arith), le-ltb (length s) 4 (omega arith), le-leb (kind_of s) 2 (omega arith)) c.behind.ensures
