use mathlib.Core.Path.{sym, ap, ◌∙◌}
use borrow.Enum.Refused.{opened}
use Rattle.domain.specs.declared.token.Holding.{Holding}
use Rattle.domain.specs.Tokens.{grabbed_by}
use Rattle.domain.specs.Tables.{link, at_limit}
use Rattle.domain_tables.specs.Held.{users_in}
use Rattle.serve_token_rules.proofs.Deciding.{does_as, offer_given}
use Rattle.serve_token_rules.proofs.Attempting.{confirms_own, confirms_offer, passed_on, kept_back}
use Rattle.serve_token_rules.proofs.decide.Goals as goal
use Rattle.serve_token_rules.proofs.decide.Goals.{in-Offer+in_default-recipient_at, in_default-ask}

pub returns-in-Answer : goal.returns-in-Answer
returns-in-Answer c = λ ts is here. rw c.in-Answer.is (c.answer_offer.ensures ts (c.state_at.ensures ∙ is) here)

pub returns-in-Some : goal.returns-in-Some
unfolding link
returns-in-Some c =
    λ ts is here. let a = c.args in
    let h = c.state_at-in-Offer in
    let r = c.in-Offer.recipient in
    let found = passed_on (grabbed_by h.result a.i) (users_in a.users.now) r c.in-Some.j c.in-Some.ensures in
    rw c.in-Offer.is
    (does_as ts a.k c.given.result (c.given.ensures ts)
    (sym (offer_given (users_in a.users.now) ts a.p a.u a.i a.k r here (h.ensures ∙ is) found.0 c.in-Some.j found.1)))

pub returns : goal.returns
returns c =
    λ ts is here. let a = c.args in
    let us = users_in a.users.now in
    let full = at_limit a.limit a.tokens.now.ids in
    let m = c.match-ask-2 in
    let t = c.attempt-t in
    let e = t.ensures in
    let was = e.1 ∙ is in
    does_as ts a.k c.turned.result (c.turned.ensures ts was)
    (elim m.branch [
      | in-Offer+in_default-recipient_at w ↦ confirms_offer full us ts a.p a.u a.i a.k here t.result.before was m.ask e.0 e.2 a.ask w.in-Offer.recipient w.ask-is w.in-Offer.is
          (λ g. kept_back (grabbed_by w.state_at-in-Offer.result a.i) us w.in-Offer.recipient w.in_default-recipient_at.ensures (ap (λ (h : Holding). grabbed_by h a.i) (w.state_at-in-Offer.ensures ∙ sym e.1) ∙ g))
      | in_default-ask w ↦ confirms_own full us ts a.p a.u a.i a.k here t.result.before was m.ask e.0 e.2 a.ask w.ask-is (opened c.in_default.in_default-own.keys2) (opened w.in_default-ask.in_default-ask-own.keys2)
    ])
