-- `explain_frame::sent::size_at` meets its contract. Assumes nothing.
use Rattle.explain_frame.proofs.SentLaws.{size_few, size_short, size_cut, size_whole}
use mathlib.Core.Path.{◌≡◌, ◌∙◌}
use Prim.Native.Nat.{◌+◌}
use Rattle.trace_frames.specs.Frames.{size_of}
use native.Mathlib.Omega.{arith}
use Rattle.explain_frame.proofs.sent.size_at.Goals as goal

pub returns-then-records-lt4 : goal.returns-then-records-lt4
returns-then-records-lt4 c = size_few c.args.records.now c.if-records-lt4.true

pub returns-then-n-lt2 : goal.returns-then-n-lt2
returns-then-n-lt2 c = size_short c.args.records.now (omega (arith, c.following-n.ensures))

pub returns-then-records-n : goal.returns-then-records-n
returns-then-records-n c = size_cut c.args.records.now (omega (arith, c.following-n.ensures))

pub returns : goal.returns
returns c = let s = c.args.records.now in let e : c.following-n.result + 2 ≡ size_of s = omega (arith, c.following-n.ensures) in e ∙ size_whole s (omega (arith, e)) (omega (arith, e))
