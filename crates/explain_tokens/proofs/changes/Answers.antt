use mathlib.Core.Path.{refl, ap, ◌∙◌}
use mathlib.Core.Bool.{Bool}
use Rattle.std.specs.Prelude.{if◌then◌else◌}
use lib.ListN.{get_or}
use Rattle.domain_tables.specs.Held.{tokens_in}
use Rattle.explain_tokens.proofs.Changing.{changing_start, changing_more, changing_all}
use borrow.Author.Rules.{rules}
use Rattle.explain_tokens.proofs.changes.Goals as goal

pub loop-i-init : goal.loop-i-init
loop-i-init c = changing_start refl refl

pub loop-i-preserved : goal.loop-i-preserved
loop-i-preserved c = let a = c.args in
    let told = c.differs-told.ensures in
    changing_more (tokens_in a.old.now) (tokens_in a.tokens.now) (search rules) (search rules) c.loop-i.invariant c.if_so.result c.if_so-in-loop-i.result c.loop-i-test.true
    (c.if_so.ensures.0 ∙ ap (λ (b : Bool). if b then get_or a.old.now.ids c.loop-i.i 0 else 0) told)
    (c.if_so-in-loop-i.ensures.0 ∙ ap (λ (b : Bool). if b then get_or a.tokens.now.ids c.loop-i.i 0 else 0) told)

pub returns : goal.returns
returns c = let a = c.args in changing_all (tokens_in a.old.now) (tokens_in a.tokens.now) (search rules) (search rules) c.loop-i.invariant c.loop-i-test.false
