use borrow.Author.Rules.{rules}
use Rattle.codec_read.proofs.ItemLaws.{item_got}
use Rattle.codec_read.proofs.take_id.Goals as goal

pub returns : goal.returns
returns c = item_got _ _ _ c.bits_at.result _ _ c.bits_at.ensures.0 (search rules) c.in_ok-g.ensures c.in_bits.ensures
