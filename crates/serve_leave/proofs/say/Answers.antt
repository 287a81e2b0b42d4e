-- One run into a long room; into a short one a run with no room lent, and a second where the records fit.
use mathlib.Core.Bool.{true≢false}
use mathlib.Core.Path.{sym, ◌∙◌}
use native.Mathlib.Omega.{arith}
use lib.Seq.{length-take-le}
use borrow.Author.Rules.{rules}
use Rattle.out_records.proofs.Saying.{fewer, run_size, say_start, say_turn}
use Rattle.serve_leave.proofs.say.Goals as goal

pub loop-again-init : goal.loop-again-init
loop-again-init c = record {
  inside = c.tried-to.ensures.0;
  size = search rules;
  few = λ e. absurd (true≢false e);
  saying = say_start 17200 c.args.out.now _ c.tried-to.result c.tried-to.ensures;
}

pub slice_bounds-farewell-end-in-loop-again : goal.slice_bounds-farewell-end-in-loop-again
slice_bounds-farewell-end-in-loop-again c = let w = c.loop-again in sym (length-take-le w.to w.out w.invariant.inside)

pub loop-again-smaller : goal.loop-again-smaller
loop-again-smaller c = let w = c.loop-again in fewer w.again _ w.to _ c.loop-again-test.true (search rules)

pub loop-again-preserved : goal.loop-again-preserved
loop-again-preserved c =
    let a = c.args in
    let w = c.loop-again in
    let f = c.farewell-total.ensures in
    let size = run_size c.farewell-total.new.out w.out w.to w.invariant.inside c.farewell-total.auto.out ∙ w.invariant.size in
    record {
      inside = omega arith;
      size = size;
      few = λ e. omega (arith, f.told.next, f.few);
      saying = λ few. say_turn a.out.now _ _ _ (w.invariant.saying few) c.loop-again-test.true f.told;
    }

pub returns : goal.returns
returns c =
    let w = c.loop-again in
    let s = (w.invariant.saying (w.invariant.few c.loop-again-test.false)).said c.loop-again-test.false in
    (s.size, s.put, s.unsaid)
