use Rattle.codec_size.proofs.TailSizes.{Checking}
use Rattle.codec_size.specs.Sizes.{items_for}
use Rattle.codec_size.proofs.tail_size.Given as goal

abbrev pub invariant-loop-i : goal.invariant-loop-i
invariant-loop-i l = Checking l.kind (items_for l.kind l.ids l.octets) l.n l.i
