use mathlib.Core.Path.{sym, ◌∙◌}
use native.Mathlib.Omega.{arith}
use Rattle.codec_table.proofs.Refusals.{bytes_at}
use Rattle.codec_read_fast.proofs.Shapes.{none_read}
use Rattle.serve_read.specs.Understood.{understood}
use Rattle.domain.proofs.Turning.{shut_hears, open_served}
use Rattle.serve_read.proofs.Understanding.{token_asks, short_asks}
use borrow.Author.Rules.{rules}
use Rattle.provider.proofs.message.Goals as goal

pub returns-then-not-is_open : goal.returns-then-not-is_open
returns-then-not-is_open c = shut_hears _ c.args.p _ _ c.is_open.ensures c.if-not-is_open.true (understood c.args.octets.now)

pub returns-in-Some : goal.returns-in-Some
returns-in-Some c =
    let a = c.args in
    let os = a.octets.now in
    c.request.ensures _
    ∙ open_served _ a.p _ _ c.is_open.ensures c.if-not-is_open.false (understood os) _
    (token_asks os (bytes_at os (λ i. omega (arith, c.type_inv.octets i))) c.in-Some.w c.in-Some.ensures (search rules) (search rules) (search rules) _ _ _ _)

pub returns-in-Some-read_short : goal.returns-in-Some-read_short
returns-in-Some-read_short c =
    let a = c.args in
    let os = a.octets.now in
    c.brief_request.ensures
    ∙ open_served _ a.p _ _ c.is_open.ensures c.if-not-is_open.false (understood os) _
    (short_asks os (bytes_at os (λ i. omega (arith, c.type_inv.octets i))) c.in-Some-read_short.q c.in-Some-read_short.ensures (search rules) (search rules) _ _ _ _)

pub long_message-requires-clause-in_use : goal.long_message-requires-clause-in_use
long_message-requires-clause-in_use c = sym c.is_open.ensures ∙ c.if-not-is_open.false

pub long_message-requires-clause-not_brief : goal.long_message-requires-clause-not_brief
long_message-requires-clause-not_brief c = none_read _ c.in_default.ensures c.in_default-read_short.ensures
