use borrow.Author.Rules.{rules}
use Rattle.codec_octets.proofs.Reading.{length_none, length_one, length_fragment, length_short, length_long, length_two}
use Rattle.codec_octets.proofs.read_length.Goals as goal

pub returns-then-s-i : goal.returns-then-s-i
returns-then-s-i c = search (rules, length_none)

pub returns-then-o-lt128 : goal.returns-then-o-lt128
returns-then-o-lt128 c = search (rules, length_one)

pub returns-then-o-ge192 : goal.returns-then-o-ge192
returns-then-o-ge192 c = search (rules, length_fragment)

pub returns-then-s-j : goal.returns-then-s-j
returns-then-s-j c = search (rules, length_short)

pub returns-then-n-lt128 : goal.returns-then-n-lt128
returns-then-n-lt128 c = search (rules, length_long)

pub returns-else-n-lt128 : goal.returns-else-n-lt128
returns-else-n-lt128 c = search (rules, length_two)
