use borrow.Author.Rules.{rules}
use Rattle.codec_octets.proofs.Numbers.{counted_none, counted_more, counted_is}
use Rattle.codec_octets.proofs.read_counted.Goals as goal

pub returns-then-k-eq0 : goal.returns-then-k-eq0
returns-then-k-eq0 c = search (rules, counted_none)

pub returns-then-k-gt4 : goal.returns-then-k-gt4
returns-then-k-gt4 c = search (rules, counted_more)

pub returns : goal.returns
returns c = search (rules, counted_is)
