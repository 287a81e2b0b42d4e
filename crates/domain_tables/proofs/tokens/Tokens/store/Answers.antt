use mathlib.Core.Path.{sym}
use Rattle.domain.proofs.CellLaws.{token_set}
use Rattle.domain_tables.proofs.TokenLaws.{token_out}
use lib.Seq.{set_out}
use borrow.Author.Rules.{rules}
use Rattle.domain_tables.proofs.tokens.Tokens.store.Goals as goal

pub returns-then-i-lt64-clause-cells : goal.returns-then-i-lt64-clause-cells
returns-then-i-lt64-clause-cells c = let s = c.args.self.now in token_set s.states s.values c.args.i c.args.t.mode c.args.t.value

pub returns-else-i-lt64-clause-cells : goal.returns-else-i-lt64-clause-cells
returns-else-i-lt64-clause-cells c = let s = c.args.self.now in sym (token_out s.states s.values c.args.i c.args.t (search rules))
