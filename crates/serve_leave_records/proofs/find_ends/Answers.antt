-- At a private channel's place, those before are marked.
use Rattle.std.specs.Prelude.{if◌then◌else◌}
use Prim.Native.Nat.{◌+◌}
use mathlib.Core.Path.{◌≡◌, refl, ap, ◌∙◌}
use mathlib.Core.Bool.{Bool}
use native.Mathlib.Omega.{arith}
use lib.ListN.{length, get_or}
use borrow.Author.Rules.{rules}
use Rattle.cols_spec.proofs.Nearest.{nearest_cell}
use Rattle.serve_leave_records.specs.Parts.{ends_there}
use Rattle.serve_leave_records.proofs.Marking.{marks_start, marks_turn, marks_on, marks_end}
use Rattle.serve_leave_records.proofs.find_ends.Goals as goal

pub loop-j-init : goal.loop-j-init
loop-j-init c =
    let cs = c.args.channels.now in
    let i : length cs.ids ≡ 128 = search rules in
    let r : length cs.kinds ≡ 128 = search rules in
    let z = nearest_cell cs.kinds 3 0 c.cell_from-j.result c.cell_from-j.ensures in
    (i, r, marks_on (ends_there c.args.gone cs.kinds cs.managers) cs.ids _ 0 c.cell_from-j.result (z.behind (omega arith)) (omega (arith, z.within)) (λ k h l. rw (z.passed k h l) refl) marks_start)

pub loop-j-smaller : goal.loop-j-smaller
loop-j-smaller c =
    let b = c.loop-j in
    let cs = c.args.channels.now in
    omega (arith, (nearest_cell cs.kinds 3 (b.j + 1) c.cell_from-j-in-loop-j.result c.cell_from-j-in-loop-j.ensures).behind (omega arith))

pub loop-j-preserved : goal.loop-j-preserved
loop-j-preserved c =
    let b = c.loop-j in
    let cs = c.args.channels.now in
    let test = ends_there c.args.gone cs.kinds cs.managers in
    let x = get_or cs.ids b.j 0 in
    let r = c.with_end-e.result in
    let z = nearest_cell cs.kinds 3 (b.j + 1) c.cell_from-j-in-loop-j.result c.cell_from-j-in-loop-j.ensures in
    let is = c.if_so.ensures.0 ∙ ap (λ (t : Bool). if t then x else 0) c.ends-is_over.ensures in
    let m = marks_turn test cs.ids r b.j c.if_so.result (omega arith) is (c.with_end-e.ensures _ b.invariant.2) in
    (b.invariant.0, b.invariant.1, marks_on test cs.ids r (b.j + 1) c.cell_from-j-in-loop-j.result (z.behind (omega arith)) (omega (arith, z.within)) (λ k h l. rw (z.passed k h l) refl) m)

pub returns : goal.returns
returns c =
    let cs = c.args.channels.now in
    let b = c.loop-j in
    marks_end (ends_there c.args.gone cs.kinds cs.managers) cs.ids b.e b.j (omega arith) b.invariant.2
