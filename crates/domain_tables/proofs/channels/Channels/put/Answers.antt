use mathlib.Core.Path.{sym}
use Rattle.domain.proofs.CellLaws.{channel_set, channel_out}
use borrow.Author.Rules.{rules}
use Rattle.domain_tables.proofs.channels.Channels.put.Goals as goal

pub returns-then-j-lt128-clause-cells : goal.returns-then-j-lt128-clause-cells
returns-then-j-lt128-clause-cells c = let s = c.args.self.now in let m = c.args.members.now in
    channel_set s.kinds s.managers m.admitted m.joined c.args.j c.args.ch.role c.args.ch.chair c.args.ch.guests c.args.ch.marks

pub returns-else-j-lt128-clause-cells : goal.returns-else-j-lt128-clause-cells
returns-else-j-lt128-clause-cells c = let s = c.args.self.now in let m = c.args.members.now in
    sym (channel_out s.kinds s.managers m.admitted m.joined c.args.j c.args.ch (search rules))
