use mathlib.Core.Path.{◌≡◌, ap, ◌∙◌}
use Prim.Native.Nat.{ℕ}
use native.Mathlib.Omega.{arith}
use lib.ListN.{length}
use Rattle.codec_table.specs.Named.{TTcf}
use Rattle.out_records.specs.Records.{wire}
use Rattle.domain.specs.declared.token.Holding.{Holding}
use Rattle.domain.specs.Tables.{state}
use Rattle.domain.specs.Tokens.{status}
use Rattle.domain.specs.Passing.{test}
use Rattle.serve_tokens.proofs.Settling.{asks_done, one_told}
use borrow.Author.Rules.{rules}
use Rattle.serve_tokens.proofs.test.Goals as goal

pub returns : goal.returns
unfolding test
returns c = λ us ts is here. let a = c.args in
    let s = c.from-status.ensures ∙ c.status.ensures ∙ ap (λ (h : Holding). status h a.i) is in
    let m = c.test_confirm-m in
    let l : length m.result ≡ 6 = search rules in
    asks_done us a.p a.u _ a.i here ts a.out.now
    (one_told ts (TTcf a.u a.k (status (state ts a.k) a.i)) a.out.now (m.ensures ∙ ap (λ (n : ℕ). wire (TTcf a.u a.k n)) s) (omega arith) a.p c.confirm.ensures)
