use mathlib.Core.Path.{◌≡◌}
use lib.ListN.{length}
use native.Mathlib.Omega.{arith}
use Rattle.serve_tokens.proofs.Doing.{told_sent, told_none}
use borrow.Author.Rules.{rules}
use Rattle.serve_tokens.proofs.deliver.Goals as goal

pub returns-in-Some : goal.returns-in-Some
returns-in-Some c =
    let l : length c.in-Some.told.m ≡ 7 = search rules in
    λ before after e t. told_sent c.args.deed before after e c.args.out.now t c.in-Some.told c.in-Some.is (omega arith) c.confirm.ensures

pub returns-in-None : goal.returns-in-None
returns-in-None c = λ before after e t. told_none c.args.deed before after e c.args.out.now t c.in-None.is
