use mathlib.Core.Path.{sym}
use Rattle.cols_spec.proofs.Answers.{find_at, find_nowhere}
use Rattle.domain_tables.proofs.UserLaws.{is_attached, not_attached, attached_none}
use borrow.Author.Rules.{rules}
use Rattle.domain_tables.proofs.users.Users.attached.Goals as goal

pub returns-then-self-i : goal.returns-then-self-i
returns-then-self-i c = let u = c.args.self.now in
    sym (is_attached u.ids u.links c.args.p c.args.u c.find-i.result (find_at u.ids c.args.u c.find-i.result c.find-i.ensures (search rules)) (search rules) c.if-self-i.true)

pub returns-else-self-i : goal.returns-else-self-i
returns-else-self-i c = let u = c.args.self.now in
    sym (not_attached u.ids u.links c.args.p c.args.u c.find-i.result (find_at u.ids c.args.u c.find-i.result c.find-i.ensures (search rules)) (search rules) c.if-self-i.false)

pub returns-else-i-lt64 : goal.returns-else-i-lt64
returns-else-i-lt64 c = let u = c.args.self.now in
    sym (attached_none u.ids u.links c.args.p c.args.u (find_nowhere u.ids c.args.u c.find-i.result c.find-i.ensures (search rules)))
