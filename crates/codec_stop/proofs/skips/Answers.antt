-- `codec_stop::skips` is safe: the modulus is a power. Assumes nothing.
use Rattle.codec_octets.proofs.Bits.{power_pos}
use borrow.Author.Rules.{rules}
use Rattle.codec_stop.proofs.skips.Goals as goal

pub nonzero_rem-result : goal.nonzero_rem-result
nonzero_rem-result c = search (rules, power_pos)
