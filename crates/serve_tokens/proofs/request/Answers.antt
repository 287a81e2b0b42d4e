-- Who asks for which token is found first; the request is then told apart.
use mathlib.Core.Path.{refl, sym, ◌∙◌}
use Rattle.domain.specs.Events.{tokens_full}
use Rattle.domain.specs.Effects.{ignored, settle}
use Rattle.domain_tables.specs.Held.{domain_in, tokens_in}
use Rattle.domain_tables.specs.Numbered.{placed}
use Rattle.domain_tables.proofs.TokenLaws.{state_found}
use Rattle.serve_tokens.proofs.Inquiring.{asked_of, ignored_to}
use Rattle.serve_tokens.proofs.request.Goals as goal

pub returns-in_default : goal.returns-in_default
unfolding settle
returns-in_default c = λ new. let a = c.args in
    asked_of (domain_in a.d.now) new a.p _ a.out.now ignored refl (ignored_to new (domain_in a.d.now) a.p a.number a.u a.k a.more (sym c.in_default.ensures))

pub returns-in-Test : goal.returns-in-Test
returns-in-Test c = λ new. let a = c.args in
    let ts = tokens_in a.d.now.tokens in
    let is = state_found ts a.k _ (placed c.find-at.result) c.find-at.ensures refl in
    asked_of (domain_in a.d.now) new a.p _ a.out.now _ (c.test.ensures _ ts (c.state_at.ensures ∙ is) (sym c.in-Some.ensures)) (c.in-Test.ensures a.u a.k new _ a.p)

pub returns-in-Please : goal.returns-in-Please
returns-in-Please c = λ new. let a = c.args in
    let ts = tokens_in a.d.now.tokens in
    let is = state_found ts a.k _ (placed c.find-at.result) c.find-at.ensures refl in
    asked_of (domain_in a.d.now) new a.p _ a.out.now _ (c.please.ensures ts a.p _ (c.state_at-in-Please.ensures ∙ is) (sym c.in-Some.ensures)) (c.in-Please.ensures a.u a.k new _ a.p)

pub carry-requires : goal.carry-requires
carry-requires c = c.find-at.ensures

pub returns-in-Change : goal.returns-in-Change
unfolding tokens_full
returns-in-Change c = λ new. let a = c.args in
    let ts = tokens_in a.d.now.tokens in
    let is = state_found ts a.k _ (placed c.find-at.result) c.find-at.ensures refl in
    asked_of (domain_in a.d.now) new a.p _ a.out.now _ (c.carry.ensures _ (c.decide-deed.ensures ts is (sym c.in-Some.ensures))) (c.in-Change.ensures a.u a.k new _ a.p)
