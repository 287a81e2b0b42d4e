-- `explain_message::message::put_octets` meets its contract. Assumes nothing.
use Rattle.explain_message.proofs.PhraseLaws.{octets_none, octets_some}
use Rattle.explain_words.specs.Letters.{ascii}
use Rattle.trace_io.proofs.Saying.{says_as}
use Rattle.explain_message.proofs.message.put_octets.Goals as goal

pub returns-then-octets-eq0 : goal.returns-then-octets-eq0
unfolding ascii
returns-then-octets-eq0 g c = says_as c.say.ensures (octets_none c.args.octets.now c.if-octets-eq0.true)

pub returns : goal.returns
returns g c = says_as c.say_octets.ensures (octets_some c.args.octets.now c.if-octets-eq0.false)
