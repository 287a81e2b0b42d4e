-- Where the last place is free, one at least is not in use.
use Prim.Native.Nat.{◌-◌}
use mathlib.Core.Bool.{false≢true}
use native.Mathlib.Omega.{arith}
use lib.ListN.{length}
use borrow.Author.Tests.{eqb-true}
use Rattle.cols_spec.proofs.Turns.{used_last}
use Rattle.domain_tables.proofs.last_free.Goals as goal

pub returns-then-n-eq0 : goal.returns-then-n-eq0
returns-then-n-eq0 c = λ e. absurd (false≢true e)

pub returns-then-limit-n : goal.returns-then-limit-n
returns-then-limit-n c = λ e. absurd (false≢true e)

pub returns : goal.returns
returns c =
    let a = c.args in
    λ e. omega (arith, used_last a.ids.now (length a.ids.now - 1) (omega arith) (eqb-true _ 0 e))
