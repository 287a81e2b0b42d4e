use mathlib.Core.Bool.{not}
use mathlib.Core.Path.{ap}
use Rattle.codec_size.proofs.TailSizes.{size_none, size_some, size_over, string_over, checking_bad, checking_all}
use native.Mathlib.Omega.{arith}
use borrow.Author.Tests.{eq-eqb}
use Rattle.codec_size.proofs.tail_size.Goals as goal

pub returns-then-n-eq0 : goal.returns-then-n-eq0
returns-then-n-eq0 c = size_none _ _ _ c.items_len-n.ensures c.if-kind-eq0.true c.if-n-eq0.true

pub returns-then-kind-eq0 : goal.returns-then-kind-eq0
returns-then-kind-eq0 c = size_some _ _ _ c.items_len-n.ensures c.if-kind-eq0.true c.if-n-eq0.false

pub returns-then-is_string : goal.returns-then-is_string
returns-then-is_string c = string_over _ _ c.if-kind-eq0.false _ _ c.items_len-n.ensures c.limit_of.ensures.0 c.if-limit_of-n.true c.if-is_string.true (λ i. rw (eq-eqb _ 3 c.if-is_string.true) (omega (arith, c.shared_slice_known-2-1.given i)))

pub returns-then-limit_of-n : goal.returns-then-limit_of-n
returns-then-limit_of-n c = size_over _ _ c.if-kind-eq0.false _ _ c.items_len-n.ensures c.limit_of.ensures.0 c.if-limit_of-n.true c.if-is_string.false

pub returns-then-not-fits_item : goal.returns-then-not-fits_item
returns-then-not-fits_item c = checking_bad c.loop-i.invariant c.loop-i-test.true _ c.item_at.ensures _ c.fits_item.ensures (ap not c.if-not-fits_item.true)

pub returns : goal.returns
returns c = checking_all c.loop-i.invariant c.loop-i-test.false _ _ c.length_size.ensures c.item_size.ensures (omega (arith, c.if-limit_of-n.false, c.limit_of.ensures.1))
