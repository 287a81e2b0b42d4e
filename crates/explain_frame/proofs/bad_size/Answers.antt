-- `explain_frame::bad_size` meets its contract. Assumes nothing.
use Rattle.explain_frame.proofs.FrameLaws.{bad_all, bad_part}
use native.Mathlib.Omega.{arith}
use Prim.Native.Nat.{◌+◌}
use Rattle.explain_frame.proofs.bad_size.Goals as goal

pub returns-then-s-lt2 : goal.returns-then-s-lt2
returns-then-s-lt2 c = bad_all c.args.s.now (omega arith)

pub returns-then-s-n : goal.returns-then-s-n
returns-then-s-n c = bad_all c.args.s.now (omega (arith, c.following-n.ensures))

pub returns : goal.returns
returns c = bad_part c.args.s.now (c.following-n.result + 2) (omega (arith, c.following-n.ensures)) (omega arith)
