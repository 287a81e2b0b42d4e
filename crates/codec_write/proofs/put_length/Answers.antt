use native.Mathlib.Omega.{arith}
use Rattle.codec_size.proofs.LengthLaws.{length_one, length_two}
use Rattle.codec_write.proofs.LayLaws.{length_lays, length_lays_two}
use borrow.Author.Rules.{rules}
use Rattle.codec_write.proofs.put_length.Goals as goal

pub put_octets-requires : goal.put_octets-requires
put_octets-requires c = (omega (arith, length_one _ c.if-n-lt128.true), search rules, search rules)

pub put_octets-requires-else-n-lt128 : goal.put_octets-requires-else-n-lt128
put_octets-requires-else-n-lt128 c = (omega (arith, length_two _ c.if-n-lt128.false), search rules, search rules)

pub returns-then-n-lt128 : goal.returns-then-n-lt128
returns-then-n-lt128 c = length_lays _ c.if-n-lt128.true c.put_octets.ensures

pub returns-else-n-lt128 : goal.returns-else-n-lt128
returns-else-n-lt128 c = length_lays_two _ c.if-n-lt128.false c.put_octets-else-n-lt128.ensures
