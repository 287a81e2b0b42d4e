use Rattle.codec_size.proofs.FieldEnds.{number_upto}
use borrow.Author.Rules.{rules}
use Rattle.codec_size.proofs.number_end.Goals as goal

pub returns : goal.returns
returns c = number_upto _ _ _ (search rules) c.octets_of-k.ensures.0 c.octets_of-k.ensures.1
