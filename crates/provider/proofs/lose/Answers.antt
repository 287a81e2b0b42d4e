use mathlib.Core.Path.{◌∙◌}
use Rattle.domain.proofs.Turning.{shut_loses, open_loses}
use Rattle.domain.specs.Events.{act}
use Rattle.serve_read.specs.Requests.{listed_request}
use Rattle.provider.proofs.lose.Goals as goal

pub returns-then-not-is_open : goal.returns-then-not-is_open
returns-then-not-is_open c = shut_loses _ c.args.p _ _ c.is_open.ensures c.if-not-is_open.true

pub returns : goal.returns
unfolding listed_request act
returns c = c.listed_request.ensures ∙ open_loses _ c.args.p _ _ c.is_open.ensures c.if-not-is_open.false
