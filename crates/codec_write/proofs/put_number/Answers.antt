use Rattle.codec_write.proofs.LayLaws.{number_first, number_second, number_lays}
use borrow.Author.Rules.{rules}
use Rattle.codec_write.proofs.put_number.Goals as goal

pub put_length-j-requires : goal.put_length-j-requires
put_length-j-requires c = number_first c.args.s.now _ _ _ (search rules) c.octets_of-k.ensures.0 c.requires

pub put_octets-requires : goal.put_octets-requires
put_octets-requires c = number_second c.args.s.now _ _ _ (search rules) c.octets_of-k.ensures.0 c.requires c.put_length-j.ensures

pub returns : goal.returns
returns c = number_lays c.args.s.now _ _ _ (search rules) c.octets_of-k.ensures.0 c.requires c.put_length-j.ensures c.put_octets.ensures
