-- `trace_io::lines::say_number` meets its contract: the digits are the number's. Assumes nothing.
use mathlib.Core.List.{[], ◌∷◌}
use mathlib.Core.Path.{ap, ◌∙◌}
use Rattle.trace_io.proofs.Saying.{says_as}
use Rattle.trace_io.proofs.Texts.{few, digits_are}
use Rattle.trace_io.proofs.lines.Lines.say_number.Goals as goal

pub returns : goal.returns
returns g c =
    let a = c.args in
    let d = c.decimal-k in
    says_as c.say.ensures
    (ap (λ l. l ∷ []) (d.ensures.digits ∙ digits_are 20 d.result a.n (few a.n d.result c.ranges.n.fits d.ensures.len) d.ensures.len))
