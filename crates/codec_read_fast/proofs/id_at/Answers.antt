use mathlib.Core.Path.{refl, sym}
use native.Mathlib.Omega.{arith}
use Rattle.codec_octets.proofs.Reading.{id_is}
use Rattle.codec_read_fast.proofs.ShortLaws.{id_fits}
use borrow.Author.Rules.{rules}
use Rattle.codec_read_fast.proofs.id_at.Goals as goal

pub returns : goal.returns
returns c =
    let s = c.args.s.now in
    let i = c.args.i in
    rw c.ok.ensures.value
    (id_fits s i c.args.low _ _ c.try_from.ensures (omega arith) λ h. sym (id_is s i c.args.low (search rules) _ _ _ c.wide.ensures.0 (search rules) c.wide-2.ensures.0 refl h).same)
