use mathlib.Core.Path.{refl}
use Rattle.cols_spec.specs.Places.{store}
use Rattle.cols_spec.proofs.Answers.{spare_at, spare_nowhere}
use Rattle.domain.specs.Tables.{add_user}
use borrow.Author.Rules.{rules}
use Rattle.domain_tables.proofs.users.Users.add.Goals as goal

pub returns-then-i-lt64 : goal.returns-then-i-lt64
unfolding add_user store
returns-then-i-lt64 c = rw (spare_at c.args.self.now.ids c.spare-i.result c.spare-i.ensures (search rules)) refl

pub returns-else-i-lt64 : goal.returns-else-i-lt64
unfolding add_user store
returns-else-i-lt64 c = rw (spare_nowhere c.args.self.now.ids c.spare-i.result c.spare-i.ensures (search rules)) refl
