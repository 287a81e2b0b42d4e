use borrow.Author.Rules.{rules}
use Rattle.codec_octets.specs.Places.{left_at}
use Rattle.codec_octets.proofs.left_at.Goals as goal

pub returns : goal.returns
unfolding left_at
returns c = search rules
