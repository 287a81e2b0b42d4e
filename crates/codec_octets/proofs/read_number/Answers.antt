use borrow.Author.Rules.{rules}
use Rattle.codec_octets.proofs.Numbers.{number_no, number_is}
use Rattle.codec_octets.proofs.read_number.Goals as goal

pub returns-in_err-length : goal.returns-in_err-length
returns-in_err-length c = search (rules, number_no)

pub returns : goal.returns
returns c = search (rules, number_is)
