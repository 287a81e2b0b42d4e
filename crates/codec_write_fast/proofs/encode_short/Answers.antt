-- What is found short is put as it is, and that is what the table gives.
use mathlib.Core.Path.{sym}
use mathlib.Core.Bool.{false≢true}
use Rattle.codec_write_fast.proofs.TerseLaws.{short_encodes}
use Rattle.codec_write_fast.proofs.encode_short.Goals as goal

pub returns-then-is_short : goal.returns-then-is_short
returns-then-is_short c =
    let short = c.is_short.ensures c.if-is_short.true in
    (λ _. short_encodes short _ _ short.has_room c.put_confirm.ensures, λ e. absurd (false≢true (sym e)))
