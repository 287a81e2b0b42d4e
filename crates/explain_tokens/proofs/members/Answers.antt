-- `explain_tokens::members` meets its contract: one place after the other. Assumes nothing.
use mathlib.Core.Path.{refl}
use Rattle.explain_tokens.proofs.HolderLaws.{filled_start, picked_more, picked_all}
use Rattle.cols_spec.specs.Sets.{has}
use borrow.Author.Rules.{rules}
use Rattle.explain_tokens.proofs.members.Goals as goal

pub loop-i-init : goal.loop-i-init
loop-i-init c = filled_start refl

pub loop-i-preserved : goal.loop-i-preserved
loop-i-preserved c =
    picked_more (has c.args.us) c.args.users.now.ids c.if_so.result (search rules) c.loop-i.invariant c.loop-i-test.true (rw (← c.has.ensures) c.if_so.ensures.0)

pub returns : goal.returns
returns c = picked_all (has c.args.us) c.args.users.now.ids (search rules) c.loop-i.invariant c.loop-i-test.false
