use Rattle.codec_write.proofs.MessageLaws.{small_code}
use borrow.Author.Rules.{rules}
use Rattle.codec_write.proofs.put_code.Goals as goal

pub put_bits-requires : goal.put_bits-requires
put_bits-requires c = (search rules, search rules, search rules, small_code _ _ c.requires.3 c.requires.2, c.requires.3, c.requires.4)
