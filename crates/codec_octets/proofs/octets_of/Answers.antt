use borrow.Author.Rules.{rules}
use borrow.Author.Tests.{lt-ltb, le-ltb}
use Rattle.codec_octets.specs.Octets.{size}
use Rattle.codec_octets.proofs.octets_of.Goals as goal

pub returns-then-v-lt256 : goal.returns-then-v-lt256
unfolding size
returns-then-v-lt256 c = simp (lt-ltb _ _ c.if-v-lt256.true) (search rules)

pub returns-then-v-lt65536 : goal.returns-then-v-lt65536
unfolding size
returns-then-v-lt65536 c = simp (le-ltb _ _ c.if-v-lt256.false, lt-ltb _ _ c.if-v-lt65536.true) (search rules)

pub returns-then-v-lt16777216 : goal.returns-then-v-lt16777216
unfolding size
returns-then-v-lt16777216 c = simp (le-ltb _ _ c.if-v-lt256.false, le-ltb _ _ c.if-v-lt65536.false, lt-ltb _ _ c.if-v-lt16777216.true) (search rules)

pub returns-else-v-lt16777216 : goal.returns-else-v-lt16777216
unfolding size
returns-else-v-lt16777216 c = simp (le-ltb _ _ c.if-v-lt256.false, le-ltb _ _ c.if-v-lt65536.false, le-ltb _ _ c.if-v-lt16777216.false) (search rules)
