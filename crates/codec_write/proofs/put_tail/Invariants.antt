use Rattle.codec_write.proofs.TailLaws.{Listing}
use Rattle.codec_size.specs.Sizes.{items_for}
use lib.ListN.{length}
use mathlib.Core.Path.{◌≡◌}
use Rattle.codec_write.proofs.put_tail.Given as goal

abbrev pub invariant-loop-i : goal.invariant-loop-i
invariant-loop-i l = Listing l.initial.s l.initial.at l.kind (items_for l.kind l.ids l.octets) l.s l.at l.i × (l.n ≡ length (items_for l.kind l.ids l.octets))
