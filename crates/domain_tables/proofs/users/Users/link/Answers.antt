use mathlib.Core.Path.{sym}
use lib.ListN.{get_or-eq_default}
use Rattle.cols_spec.proofs.Rows.{get_d_any}
use Rattle.domain_tables.proofs.users.Users.link.Goals as goal
use borrow.Author.Rules.{rules}

pub returns-then-i-lt64 : goal.returns-then-i-lt64
returns-then-i-lt64 c = sym (get_d_any c.args.self.now.links c.args.j 16 0 (search rules))

pub returns : goal.returns
returns c = sym (get_or-eq_default c.args.self.now.links 16 (search rules))
