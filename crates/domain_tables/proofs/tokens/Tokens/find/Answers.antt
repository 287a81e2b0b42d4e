use mathlib.Core.Path.{sym}
use Rattle.cols_spec.proofs.Answers.{find_at, find_nowhere}
use borrow.Author.Rules.{rules}
use Rattle.domain_tables.proofs.tokens.Tokens.find.Goals as goal

pub returns-then-i-lt64 : goal.returns-then-i-lt64
returns-then-i-lt64 c = sym (find_at c.args.self.now.ids c.args.k c.find-i.result c.find-i.ensures (search rules))

pub returns-else-i-lt64 : goal.returns-else-i-lt64
returns-else-i-lt64 c = sym (find_nowhere c.args.self.now.ids c.args.k c.find-i.result c.find-i.ensures (search rules))
