use mathlib.Core.Path.{refl}
use Rattle.cols_spec.specs.Places.{store}
use Rattle.cols_spec.proofs.Answers.{spare_at, spare_nowhere}
use Rattle.domain.specs.Tables.{add_channel}
use borrow.Author.Rules.{rules}
use Rattle.domain_tables.proofs.channels.Channels.add.Goals as goal

pub returns-then-j-lt128 : goal.returns-then-j-lt128
unfolding add_channel store
returns-then-j-lt128 c = rw (spare_at c.args.self.now.ids c.spare-j.result c.spare-j.ensures (search rules), c.put.ensures.ids, c.put.ensures.cells) refl

pub returns-else-j-lt128 : goal.returns-else-j-lt128
unfolding add_channel store
returns-else-j-lt128 c = rw (spare_nowhere c.args.self.now.ids c.spare-j.result c.spare-j.ensures (search rules)) refl
