-- `salvage_window::expect` meets its contract. Assumes nothing.
use native.Mathlib.Omega.{arith}
use Rattle.salvage_window.proofs.Answers.{none_left, none_begins, some_kept}
use Rattle.salvage_window.proofs.expect.Goals as goal

pub returns-then-w-eq0 : goal.returns-then-w-eq0
returns-then-w-eq0 c = none_left c.args.ended c.args.w.now c.keeps-octets.result c.keeps-octets.ensures (omega arith) (omega arith)

pub returns-then-octets-eq0 : goal.returns-then-octets-eq0
returns-then-octets-eq0 c = none_begins c.args.ended c.args.w.now c.keeps-octets.result c.keeps-octets.ensures (omega arith) (λ e. omega arith) c.decided.result c.decided.ensures

pub returns : goal.returns
returns c = some_kept c.args.ended c.args.w.now c.keeps-octets.result c.keeps-octets.ensures (λ e. omega arith)
