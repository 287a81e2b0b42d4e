-- `explain_stop::number_of` meets its contract. Assumes nothing.
use Rattle.explain_stop.proofs.StopLaws.{number_none, number_some}
use Rattle.explain_stop.proofs.number_of.Goals as goal

pub returns-then-octets-eq0 : goal.returns-then-octets-eq0
returns-then-octets-eq0 c = number_none c.args.octets.now c.if-octets-eq0.true

pub returns : goal.returns
returns c = number_some c.args.octets.now c.wide.result c.if-octets-eq0.false c.wide.ensures.0
