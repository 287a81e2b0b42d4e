use mathlib.Core.Path.{refl}
use Rattle.domain.specs.Cells.{hold}
use Rattle.domain.proofs.CellLaws.{token_at}
use Rattle.domain_tables.proofs.TokenLaws.{token_none}
use borrow.Author.Rules.{rules}
use Rattle.domain_tables.proofs.tokens.Tokens.held_at.Goals as goal

pub returns-then-i-lt64 : goal.returns-then-i-lt64
returns-then-i-lt64 c = let s = c.args.self.now in
    rw (c.from.ensures, token_at s.states s.values c.args.i (search rules) (search rules)) refl

pub returns : goal.returns
unfolding hold
returns c = let s = c.args.self.now in rw (token_none s.states s.values c.args.i (search rules)) refl
