use Rattle.codec_table.specs.Named.{TVin}
use Rattle.domain.specs.declared.token.Holding.TheVariants.{Giving}
use Rattle.serve_token_rules.proofs.Deciding.{turns}
use Rattle.serve_token_rules.proofs.given.Goals as goal

pub returns : goal.returns
returns c =
    λ ts. let a = c.args in
    turns ts a.k (TVin a.u a.k a.recipient) c.give_indication.ensures (Giving a.i a.j) c.from.ensures (rw c.link.ensures)
