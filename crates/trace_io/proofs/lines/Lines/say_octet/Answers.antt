-- Two digits, and the space.
use Rattle.trace_io.proofs.Saying.{says_as, octet_apart, octet_close}
use Rattle.trace_io.proofs.lines.Lines.say_octet.Goals as goal

pub returns-then-apart : goal.returns-then-apart
returns-then-apart g c = says_as c.say.ensures (octet_apart _ _ _ c.args.octet c.if-apart.true c.digit-high.ensures c.digit-low.ensures)

pub returns : goal.returns
returns g c = says_as c.say-2.ensures (octet_close _ _ _ c.args.octet c.if-apart.false c.digit-high.ensures c.digit-low.ensures)
