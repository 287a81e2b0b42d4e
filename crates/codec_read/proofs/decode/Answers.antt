use native.Mathlib.Omega.{arith}
use Rattle.codec_table.proofs.Refusals.{bytes_at}
use Rattle.codec_read.proofs.HeldLaws.{decoded_is}
use Rattle.codec_read.proofs.RowLaws.{none_read}
use Rattle.codec_read.proofs.decode.Goals as goal

pub returns : goal.returns
returns c =
    let s = c.args.s.now in
    decoded_is s _ _ _ c.in_ok-head.ensures (none_read s (bytes_at s (λ i. omega (arith, c.shared_slice_known-1.given i))))
