use mathlib.Core.Path.{refl}
use lib.Seq.{set_out}
use Rattle.domain.specs.Tables.{end_channel}
use borrow.Author.Rules.{rules}
use Rattle.domain_tables.proofs.channels.Channels.end.Goals as goal

pub returns-then-j-lt128 : goal.returns-then-j-lt128
unfolding end_channel
returns-then-j-lt128 c = rw (c.put.ensures.ids, c.put.ensures.cells) refl

pub returns-else-j-lt128 : goal.returns-else-j-lt128
unfolding end_channel
returns-else-j-lt128 c = rw (c.put.ensures.ids, c.put.ensures.cells, set_out c.args.self.now.ids c.args.j 0 (search rules)) refl
