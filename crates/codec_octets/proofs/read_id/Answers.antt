use borrow.Author.Rules.{rules}
use Rattle.codec_octets.proofs.Reading.{id_none, id_short, id_over, id_is}
use Rattle.codec_octets.proofs.read_id.Goals as goal

pub returns-then-s-i : goal.returns-then-s-i
returns-then-s-i c = search (rules, id_none)

pub returns-then-s-j : goal.returns-then-s-j
returns-then-s-j c = search (rules, id_short)

pub returns-then-n-gt65535 : goal.returns-then-n-gt65535
returns-then-n-gt65535 c = search (rules, id_over)

pub returns-else-n-gt65535 : goal.returns-else-n-gt65535
returns-else-n-gt65535 c = search (rules, id_is)
