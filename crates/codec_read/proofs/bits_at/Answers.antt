use borrow.Author.Rules.{rules}
use Rattle.codec_octets.specs.Places.{left_at}
use Rattle.codec_octets.proofs.Bits.{bits_none, bits_some, power_pos}
use Rattle.codec_read.proofs.bits_at.Goals as goal

pub returns-then-left-eq0 : goal.returns-then-left-eq0
returns-then-left-eq0 c = bits_none _ _ c.left_at-left.result c.left_at-left.ensures.0 c.if-left-eq0.true

pub bounds-s-i : goal.bounds-s-i
unfolding left_at
bounds-s-i c = search rules

pub nonzero_rem-result : goal.nonzero_rem-result
nonzero_rem-result c = search (rules, power_pos)

pub returns : goal.returns
returns c = bits_some _ _ _ _ c.left_at-left.ensures.0 c.left_at-left.ensures.1 c.wide.ensures.0 c.wide.ensures.1
