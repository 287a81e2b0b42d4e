use native.Mathlib.Omega.{arith}
use Rattle.codec_table.proofs.Refusals.{bytes_at}
use Rattle.serve_read.proofs.Understanding.{list_asks}
use borrow.Author.Rules.{rules}
use Rattle.serve_read.proofs.understand.Goals as goal

pub returns-in-Some : goal.returns-in-Some
returns-in-Some c none =
    let os = c.args.octets.now in
    rw c.from-asked.ensures (list_asks os (bytes_at os (λ i. omega (arith, c.type_inv.octets i))) none _ c.in-Some.l c.in-Some.ensures (search rules) (search rules))
