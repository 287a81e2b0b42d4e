use borrow.Enum.Refused.{opened}
use mathlib.Core.Path.{sym, ap, ◌∙◌}
use Rattle.domain.specs.Tables.{Tokens}
use Rattle.domain.specs.Effects.{Effect, settle}
use Rattle.domain.proofs.Effects.{settle_ignored}
use Rattle.domain_tables.specs.Held.{tokens_in}
use Rattle.serve_token_rules.specs.Deeds.{fated}
use Rattle.serve_tokens.proofs.Doing.{no_room, does_ignored, does_tell}
use Rattle.serve_tokens.proofs.carry.Goals as goal

pub returns-in-Ignored : goal.returns-in-Ignored
returns-in-Ignored c =
    λ e does. let a = c.args in
    let ts = tokens_in a.tokens.now in
    settle_ignored ts a.out.now ∙ ap (λ (x : Effect Tokens). settle ts x a.out.now) (sym (does_ignored ts a.k a.deed e does c.in-Ignored.is))

pub returns-then-eq : goal.returns-then-eq
returns-then-eq c =
    λ e does. let a = c.args in
    let ts = tokens_in a.tokens.now in
    rw (sym (no_room c.deliver-a.result.reply) ∙ sym c.eq.ensures ∙ c.if-eq.true) at (c.deliver-a.ensures ts (fated ts a.k a.deed.fate) e (does_tell ts a.k a.deed e does (opened c.in_default.in_default-own.keys2)))

pub returns : goal.returns
returns c =
    λ e does. let a = c.args in
    let ts = tokens_in a.tokens.now in
    rw (c.keep.ensures c.requires) (rw (sym (no_room c.deliver-a.result.reply) ∙ sym c.eq.ensures ∙ c.if-eq.false) at (c.deliver-a.ensures ts (fated ts a.k a.deed.fate) e (does_tell ts a.k a.deed e does (opened c.in_default.in_default-own.keys2))))
