use Rattle.trace_io.specs.Hexadecimal.{octet_texts}
use Rattle.trace_io.proofs.Saying.{on_step, on_end}
use Rattle.trace_io.proofs.lines.Lines.say_octets.Goals as goal

pub loop-octet-preserved : goal.loop-octet-preserved
unfolding octet_texts
loop-octet-preserved g c = on_step c.loop-octet.invariant c.loop-octet-test.true c.say_octet.ensures

pub returns : goal.returns
returns g c = on_end c.loop-octet.invariant c.loop-octet-test.false
