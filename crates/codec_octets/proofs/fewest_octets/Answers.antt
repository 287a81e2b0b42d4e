use borrow.Author.Rules.{rules}
use native.Mathlib.Omega.{arith}
use Rattle.codec_octets.proofs.Numbers.{sofar_none, sofar_fits, sofar_more, fewest_short, fewest_more, fewest_is}
use Rattle.codec_octets.proofs.fewest_octets.Goals as goal

pub returns-then-s-i : goal.returns-then-s-i
returns-then-s-i c = search (rules, fewest_short)

pub loop-o-init : goal.loop-o-init
loop-o-init c = search (rules, sofar_none)

pub overflow_mul-v : goal.overflow_mul-v
overflow_mul-v c = let h = sofar_fits c.loop-o.invariant c.loop-o-test.true (search rules) in omega arith

pub overflow_add-v : goal.overflow_add-v
overflow_add-v c = let h = sofar_fits c.loop-o.invariant c.loop-o-test.true (search rules) in omega arith

pub loop-o-preserved : goal.loop-o-preserved
loop-o-preserved c = search (rules, sofar_more)

pub returns-then-octets_of-k : goal.returns-then-octets_of-k
returns-then-octets_of-k c = fewest_is _ _ _ c.octets_of.result c.loop-o.invariant c.loop-o-test.false c.octets_of.ensures.0 c.if-octets_of-k.true

pub returns-else-octets_of-k : goal.returns-else-octets_of-k
returns-else-octets_of-k c = fewest_more _ _ _ c.octets_of.result c.loop-o.invariant c.loop-o-test.false c.octets_of.ensures.0 c.if-octets_of-k.false
