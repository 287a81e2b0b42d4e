use Prim.Native.Nat.{◌<◌}
use native.Mathlib.Omega.{arith}
use mathlib.Core.Path.{◌≡◌, refl}
use lib.ListN.{length}
use Rattle.domain.proofs.CellLaws.{token_at}
use Rattle.explain_tokens.specs.Holders.{differ, changed_at}
use borrow.Author.Rules.{rules}
use Rattle.explain_tokens.proofs.differs.Goals as goal

pub returns : goal.returns
unfolding differ changed_at
returns c =
    let a = c.args in
    let i : a.i < 64 = search rules in
    let m : length a.old.now.states ≡ 64 = search rules in
    let v : length a.old.now.values ≡ 64 = search rules in
    let n : length a.tokens.now.states ≡ 64 = search rules in
    let w : length a.tokens.now.values ≡ 64 = search rules in
    rw (token_at a.old.now.states a.old.now.values a.i (omega arith) (omega arith), token_at a.tokens.now.states a.tokens.now.values a.i (omega arith) (omega arith)) refl
