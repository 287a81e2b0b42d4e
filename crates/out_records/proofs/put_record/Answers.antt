use native.Mathlib.Omega.{arith}
use mathlib.Core.Path.{◌∙◌}
use Rattle.out_records.specs.Records.{record_of}
use Rattle.out_records.proofs.Laying.{put_then, put_allowed, put_refused, allowed_parts, two_octets}
use borrow.Author.Rules.{rules}
use Rattle.out_records.proofs.put_record.Goals as goal

pub overflow_cast-n : goal.overflow_cast-n
overflow_cast-n c = let ok = allowed_parts _ _ _ c.allowed.ensures c.if-allowed.true in
    search rules

pub lay-requires : goal.lay-requires
lay-requires c = let ok = allowed_parts _ _ _ c.allowed.ensures c.if-allowed.true in
    (search rules, ok.1)

pub returns-then-allowed : goal.returns-then-allowed
unfolding record_of
returns-then-allowed c =
    let ok = allowed_parts _ _ _ c.allowed.ensures c.if-allowed.true in
    let head = rw (c.to_be_bytes-size.ensures ∙ two_octets _ (omega (arith, ok.1))) at c.lay-at.ensures in
    put_allowed _ _ _ _ _ c.allowed.ensures c.if-allowed.true (put_then head c.lay.ensures)

pub returns : goal.returns
returns c = put_refused _ _ _ _ _ c.allowed.ensures c.if-allowed.false
