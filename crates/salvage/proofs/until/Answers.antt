-- `salvage::until` meets its contract. The loop's invariant: the octets passed and those still to pass are all. Assumes nothing.
use Prim.Native.Nat.{ℕ, suc, ◌+◌, ◌-◌}
use mathlib.Core.Bool.{Bool}
use mathlib.Core.List.{List}
use mathlib.Core.Path.{◌≡◌, sym, ap, ◌∙◌}
use native.Mathlib.Omega.{arith}
use lib.ListN.{length, take, drop}
use Rattle.salvage.specs.Spans.{resumes, until}
use Rattle.salvage.proofs.SpanLaws.{part_is, until_here, until_on, until_end}
use Rattle.salvage.proofs.until.Goals as goal

-- what is answered of a part of the trace is so of the place that the part begins at
looked : (s : List ℕ) {n k : ℕ} {r t : Bool} → r ≡ resumes (take (length s - k) (drop k s)) → k ≡ n → r ≡ t → resumes (drop n s) ≡ t
looked s {k = k} e same t = ap (λ q. resumes (drop q s)) (sym same) ∙ ap resumes (sym (part_is s k)) ∙ sym e ∙ t

pub returns-then-resumes : goal.returns-then-resumes
returns-then-resumes c =
    let s = c.args.s.now in
    let e : until (drop c.loop-n.n s) ≡ 0 = until_here (drop c.loop-n.n s) (looked s c.resumes.ensures (omega arith) c.if-resumes.true) in
    omega (arith, c.loop-n.invariant)

pub loop-n-preserved : goal.loop-n-preserved
loop-n-preserved c =
    let s = c.args.s.now in
    let n = c.loop-n.n in
    let e : until (drop n s) ≡ suc (until (drop (n + 1) s)) = until_on s n (omega arith) (looked s c.resumes.ensures (omega arith) c.if-resumes.false) in
    omega (arith, c.loop-n.invariant)

pub returns : goal.returns
returns c =
    omega (arith, c.loop-n.invariant, until_end c.args.s.now c.loop-n.n (omega arith))
