-- `trace_frames::next_frame` meets its contract: each test is a rule, and a front that passes them is judged by its kind. Assumes nothing.
use mathlib.Core.Path.{sym, ◌∙◌}
use native.Mathlib.Omega.{arith}
use Rattle.trace_frames.specs.Claims.{length_below_3, octets_missing, other_version}
use Rattle.trace_frames.proofs.Laws.{over_is, short_bad, bad_is, kind_is}
use Rattle.trace_frames.proofs.next_frame.Goals as goal

pub returns-then-s-eq0 : goal.returns-then-s-eq0
returns-then-s-eq0 c = sym (over_is c.args.s.now c.if-s-eq0.true)

pub returns-then-s-lt5 : goal.returns-then-s-lt5
returns-then-s-lt5 c = sym (short_bad c.args.s.now (omega arith) c.if-s-lt5.true)

pub overflow_add-size : goal.overflow_add-size
overflow_add-size c = omega (arith, c.shared_slice_known-3-1.given 0, c.shared_slice_known-3-1.given 1)

pub returns-then-size-lt5 : goal.returns-then-size-lt5
returns-then-size-lt5 c = sym (bad_is c.args.s.now (omega arith) (length_below_3 (omega arith)))

pub returns-then-s-size : goal.returns-then-s-size
returns-then-s-size c = sym (bad_is c.args.s.now (omega arith) (octets_missing (omega arith)))

pub returns-then-version-ne1 : goal.returns-then-version-ne1
returns-then-version-ne1 c = sym (bad_is c.args.s.now (omega arith) (other_version (λ e. omega arith)))

pub returns : goal.returns
returns c =
    let s = c.args.s.now in
    c.of_kind.ensures
    ∙ rw c.following-size.ensures (sym (kind_is s (omega arith) (omega arith) (omega arith)))
