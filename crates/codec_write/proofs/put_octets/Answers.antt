use mathlib.Core.Path.{ap, ◌∙◌}
use lib.ListN.{length}
use native.Mathlib.Omega.{arith}
use Rattle.codec_write.proofs.LayLaws.{laying_more, laying_past, laying_all}
use Rattle.codec_write.proofs.put_octets.Goals as goal
use Rattle.codec_write.proofs.put_octets.Goals.{then-j-k-ge4, else-j-k-ge4}

pub loop-j-preserved : goal.loop-j-preserved
loop-j-preserved c =
    let l = c.loop-j.invariant in
    elim c.if-j-k-ge4.branch [
      | then-j-k-ge4 w ↦ rw (w.s-is, w.at-is) (laying_more l c.requires.0 c.requires.1 (omega arith) (ap length c.to_be_bytes-octets.ensures) w.if-j-k-ge4.true)
      | else-j-k-ge4 w ↦ rw (w.s-is, w.at-is) (laying_past l w.if-j-k-ge4.false)
    ]

pub returns : goal.returns
returns c = laying_all c.args.v c.loop-j.invariant c.requires.1 c.requires.2 c.to_be_bytes-octets.ensures (omega arith) (omega arith)
