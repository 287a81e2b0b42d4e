use mathlib.Core.Path.{sym}
use Rattle.cols_spec.proofs.Answers.{find_at, find_nowhere}
use borrow.Author.Rules.{rules}
use Rattle.domain_tables.proofs.channels.Channels.find.Goals as goal

pub returns-then-j-lt128 : goal.returns-then-j-lt128
returns-then-j-lt128 c = sym (find_at c.args.self.now.ids c.args.c c.find-j.result c.find-j.ensures (search rules))

pub returns-else-j-lt128 : goal.returns-else-j-lt128
returns-else-j-lt128 c = sym (find_nowhere c.args.self.now.ids c.args.c c.find-j.result c.find-j.ensures (search rules))
