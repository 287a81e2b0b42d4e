use borrow.Author.Rules.{rules}
use Rattle.codec_octets.proofs.Bits.{bits_within, bits_short, bits_across}
use Rattle.codec_read.proofs.take_bits.Goals as goal

pub returns-then-width-left : goal.returns-then-width-left
returns-then-width-left c = search (rules, bits_within)

pub returns-then-s-i : goal.returns-then-s-i
returns-then-s-i c = search (rules, bits_short)

pub returns : goal.returns
returns c = search (rules, bits_across)
