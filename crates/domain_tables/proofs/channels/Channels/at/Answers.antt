use mathlib.Core.Path.{sym}
use Rattle.domain.proofs.CellLaws.{channel_at, channel_none}
use borrow.Author.Rules.{rules}
use Rattle.domain_tables.proofs.channels.Channels.at.Goals as goal

pub returns-then-j-lt128 : goal.returns-then-j-lt128
returns-then-j-lt128 c = let s = c.args.self.now in let m = c.args.members.now in
    sym (channel_at s.kinds s.managers m.admitted m.joined c.args.j (search rules) (search rules) (search rules) (search rules))

pub returns : goal.returns
returns c = let s = c.args.self.now in let m = c.args.members.now in
    sym (channel_none s.kinds s.managers m.admitted m.joined c.args.j (search rules))
