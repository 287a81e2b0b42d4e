use mathlib.Core.Path.{sym}
use lib.ListN.{get_or-eq_default}
use Rattle.domain_tables.proofs.users.Users.name.Goals as goal
use borrow.Author.Rules.{rules}

pub returns : goal.returns
returns c = sym (get_or-eq_default c.args.self.now.ids 0 (search rules))
