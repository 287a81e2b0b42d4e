-- `salvage::resumes` meets its contract. Assumes nothing.
use mathlib.Core.Path.{sym, ap, ◌∙◌}
use native.Mathlib.Omega.{arith}
use Rattle.std.specs.Option.{is_some}
use lib.ListN.{drop}
use Rattle.trace_frames.specs.Good.{good_size, some_size}
use Rattle.trace_frames.proofs.Good.{within, size_of_none, size_of_some, is_some_size}
use Rattle.salvage.proofs.SpanLaws.{part_is, resumes_none, resumes_last, resumes_next}
use Rattle.salvage.proofs.resumes.Goals as goal

pub returns-in-None : goal.returns-in-None
returns-in-None c = sym (resumes_none c.args.s.now (size_of_none _ c.in-None.ensures))

pub returns-then-size-s : goal.returns-then-size-s
returns-then-size-s c =
    let g = size_of_some _ _ c.in-Some.ensures in
    sym (resumes_last c.args.s.now (omega arith) (omega arith))

pub slice_bounds-good_size-count : goal.slice_bounds-good_size-count
slice_bounds-good_size-count c = omega (arith, size_of_some _ _ c.in-Some.ensures, within c.args.s.now)

pub slice_bounds-good_size-start : goal.slice_bounds-good_size-start
slice_bounds-good_size-start c = omega (arith, size_of_some _ _ c.in-Some.ensures, within c.args.s.now)

pub returns-else-size-s : goal.returns-else-size-s
returns-else-size-s c =
    let s = c.args.s.now in
    let g = size_of_some _ _ c.in-Some.ensures in
    c.is_some.ensures ∙ ap is_some (c.good_size-in-Some.ensures ∙ ap (λ n. some_size (good_size n)) (part_is s _ ∙ ap (λ n. drop n s) g.0)) ∙ is_some_size _
    ∙ sym (resumes_next s (omega arith) (λ e. omega arith))
