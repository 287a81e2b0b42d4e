-- `explain_frame::sent::put_record` meets its contract. Assumes nothing.
use Rattle.explain_frame.specs.Sent.{in_words, record_texts}
use Rattle.explain_words.specs.Letters.{ascii}
use Rattle.trace_io.specs.Lines.{decimal}
use Rattle.trace_io.proofs.Saying.{says_then, says_as}
use lib.Seq.{take_all}
use lib.ListN.{length, drop, length-drop}
use Prim.Native.Nat.{◌-◌}
use mathlib.Core.List.{[], ◌∷◌}
use mathlib.Core.Path.{ap}
use native.Mathlib.Omega.{arith}
use Rattle.explain_frame.proofs.sent.put_record.Goals as goal

pub returns : goal.returns
unfolding ascii record_texts in_words
returns g c =
    let s = c.args.one.now in
    let number = says_as c.say_number.ensures (ap (λ n. decimal n ∷ []) c.wide.ensures.0) in
    let message = says_as c.put_message.ensures (ap in_words (take_all (length s - 4) (drop 4 s) (omega (arith, length-drop 4 s)))) in
    says_then c.say.ensures (says_then number (says_then c.say-2.ensures (says_then message c.say-3.ensures)))
