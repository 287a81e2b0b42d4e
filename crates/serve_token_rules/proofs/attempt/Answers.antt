use mathlib.Core.Path.{refl, ◌∙◌}
use Rattle.domain.specs.Tables.{at_limit}
use Rattle.serve_token_rules.specs.Attempts.{attempted, kind_of}
use Rattle.serve_token_rules.proofs.Attempting.{grab_same, inhibit_same, refused}
use Rattle.serve_token_rules.proofs.attempt.Goals as goal

pub returns-in-Grab : goal.returns-in-Grab
unfolding kind_of attempted
returns-in-Grab c =
    let a = c.args in
    let h = c.state_at-h in
    rw c.in-Grab.is
    (refl, h.ensures, c.grab.ensures ∙ grab_same h.result a.i c.full_for.result (at_limit a.limit a.tokens.now.ids) c.full_for.ensures)

pub returns-in-Inhibit : goal.returns-in-Inhibit
unfolding kind_of attempted
returns-in-Inhibit c =
    let a = c.args in
    let h = c.state_at-h-in-Inhibit in
    rw c.in-Inhibit.is
    (refl, h.ensures, c.inhibit.ensures ∙ inhibit_same h.result a.i c.full_for-in-Inhibit.result (at_limit a.limit a.tokens.now.ids) c.full_for-in-Inhibit.ensures)

pub returns-in-Release : goal.returns-in-Release
unfolding kind_of attempted
returns-in-Release c = rw c.in-Release.is (refl, c.state_at-h-in-Release.ensures, c.release.ensures)

pub returns-in_default : goal.returns-in_default
returns-in_default c =
    let a = c.args in
    let h = c.state_at-h-in_default in
    let r = refused a.ask (at_limit a.limit a.tokens.now.ids) h.result a.i _ c.in_default.in_default-own.keys4 c.offer_fails.ensures in
    (r.0, h.ensures, r.1)
