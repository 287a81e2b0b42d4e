use Rattle.domain_tables.specs.Held.{tokens_in}
use Rattle.domain_tables.specs.Numbered.{placed}
use Rattle.domain_tables.proofs.TokenLaws.{state_found}
use Rattle.domain_tables.proofs.tokens.Tokens.state.Goals as goal

pub returns : goal.returns
returns c = state_found (tokens_in c.args.self.now) c.args.k c.state_at.result (placed c.find.result) c.find.ensures c.state_at.ensures
