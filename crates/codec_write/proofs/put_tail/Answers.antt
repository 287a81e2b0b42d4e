use Rattle.codec_write.proofs.TailLaws.{listing_nothing, listing_room, listing_start, listing_fits, listing_next, listing_more, listing_all, listing_whole}
use mathlib.Core.Path.{◌∙◌}
use native.Mathlib.Omega.{arith}
use Rattle.codec_write.proofs.put_tail.Goals as goal

pub returns-then-kind-eq0 : goal.returns-then-kind-eq0
returns-then-kind-eq0 c = listing_nothing _ _ _ _ c.requires.0 c.requires.1 c.if-kind-eq0.true

pub put_length-at-requires : goal.put_length-at-requires
put_length-at-requires c = listing_room c.args.s.now _ _ _ c.requires.0 c.requires.1 c.if-kind-eq0.false _ c.items_len-n.ensures

pub loop-i-init : goal.loop-i-init
loop-i-init c = (listing_start _ _ _ _ c.requires.0 c.requires.1 c.if-kind-eq0.false _ c.items_len-n.ensures c.put_length-at.ensures, c.items_len-n.ensures)

pub item_at-requires : goal.item_at-requires
item_at-requires c = omega (arith, c.loop-i.invariant.1, c.loop-i-test.true)

pub put_item-at-requires : goal.put_item-at-requires
put_item-at-requires c = (listing_fits c.loop-i.invariant.0 (omega (arith, c.loop-i.invariant.1, c.loop-i-test.true)) _ c.item_at.ensures, listing_next c.loop-i.invariant.0 (omega (arith, c.loop-i.invariant.1, c.loop-i-test.true)) _ c.item_at.ensures)

pub loop-i-preserved : goal.loop-i-preserved
loop-i-preserved c = (listing_more c.loop-i.invariant.0 (omega (arith, c.loop-i.invariant.1, c.loop-i-test.true)) _ c.item_at.ensures c.put_item-at.ensures, c.loop-i.invariant.1)

pub shape_of-s : goal.shape_of-s
shape_of-s c = c.loop-i.invariant.0.size ∙ c.put_length-at.ensures.size

pub returns : goal.returns
returns c = listing_whole _ _ _ _ c.requires.0 c.requires.1 c.if-kind-eq0.false _ c.items_len-n.ensures c.put_length-at.ensures (listing_all c.loop-i.invariant.0 (omega (arith, c.loop-i.invariant.1, c.loop-i-test.false)))
