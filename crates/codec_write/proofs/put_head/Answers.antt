use Rattle.codec_write.proofs.MessageLaws.{clear_first, head_plain, head_optional}
use borrow.Author.Rules.{rules}
use Rattle.codec_write.proofs.put_head.Goals as goal

pub put_bits-requires : goal.put_bits-requires
put_bits-requires c = (search rules, search rules, search rules, search rules, search rules, clear_first _)

pub returns-then-form-eq0 : goal.returns-then-form-eq0
returns-then-form-eq0 c = head_plain c.put_bits.ensures c.if-form-eq0.true

pub returns : goal.returns
returns c = head_optional c.put_bits.ensures c.put_bits-2.ensures c.requires.2 c.if-form-eq0.false c.requires.1
