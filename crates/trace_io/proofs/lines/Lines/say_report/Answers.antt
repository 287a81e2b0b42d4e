-- `trace_io::lines::add_line` meets its contract: five fields one behind the other are the line. Assumes nothing.
use mathlib.Core.Path.{◌≡◌, sym}
use native.Mathlib.Omega.{arith}
use lib.ListN.{take}
use lib.Seq.{length-take-le}
use Rattle.trace_io.specs.Lines.{line_of}
use Rattle.trace_io.proofs.Texts.{adds_on}
use Rattle.trace_io.proofs.lines.Lines.say_report.Goals as goal

pub slice_bounds-say-end : goal.slice_bounds-say-end
slice_bounds-say-end g c = let p = c.put_field-e in sym (length-take-le p.result p.new.text (omega arith))

pub returns : goal.returns
unfolding line_of
returns g c =
    let a = c.args in
    let two = adds_on c.put_field-a.ensures.laid c.put_field-b.ensures in
    let four = adds_on (adds_on two c.put_field-c.ensures) c.put_field-d.ensures in
    let p = c.put_field-e in
    let line : take p.result p.new.text ≡ line_of a.report = adds_on four p.ensures in
    rw line at c.say.ensures
