use native.Mathlib.Omega.{arith}
use Rattle.codec_table.proofs.Refusals.{bytes_at}
use mathlib.Core.Path.{sym, ◌∙◌}
use Rattle.domain.specs.declared.numbers.Reply.TheVariants.{WrongLength, BadEncoding, MayNotGoUp, NotServed}
use Rattle.serve_read.specs.Understood.{number_in}
use Rattle.serve_read.proofs.Understanding.{none_understood, long_understood, unknown_understood, down_understood, unserved_understood, read_understood, refuses_asks, head_asks, codec_asks}
use Rattle.codec_table.proofs.ColumnLaws.{up_at, served_at}
use Rattle.serve_read.proofs.understand_all.Goals as goal

pub returns-then-octets-eq0 : goal.returns-then-octets-eq0
returns-then-octets-eq0 c none = let os = c.args.octets.now in refuses_asks os WrongLength _ (none_understood os c.if-octets-eq0.true)

pub returns-then-octets-gt-MESSAGE_LIMIT : goal.returns-then-octets-gt-MESSAGE_LIMIT
returns-then-octets-gt-MESSAGE_LIMIT c none =
    let os = c.args.octets.now in
    refuses_asks os WrongLength _ (long_understood os c.if-octets-gt-MESSAGE_LIMIT.true)

pub overflow_cast-number : goal.overflow_cast-number
overflow_cast-number c = omega (arith, c.type_inv.octets 0)

pub returns-then-number-gt42 : goal.returns-then-number-gt42
unfolding number_in
returns-then-number-gt42 c none =
    let os = c.args.octets.now in
    refuses_asks os BadEncoding _ (unknown_understood os (omega arith) (omega arith) c.if-number-gt42.true)

pub returns-then-not-goes_up : goal.returns-then-not-goes_up
unfolding number_in
returns-then-not-goes_up c none =
    let os = c.args.octets.now in
    let down = sym (c.goes_up.ensures ∙ up_at _ _ c.way_of-way.ensures) ∙ c.if-not-goes_up.true in
    refuses_asks os MayNotGoUp _ (down_understood os (omega arith) (omega arith) c.if-number-gt42.false down)

pub returns-then-not-is_served : goal.returns-then-not-is_served
unfolding number_in
returns-then-not-is_served c none =
    let os = c.args.octets.now in
    let up = sym (c.goes_up.ensures ∙ up_at _ _ c.way_of-way.ensures) ∙ c.if-not-goes_up.false in
    let unserved = sym (c.is_served.ensures ∙ served_at _ _ c.way_of-way.ensures) ∙ c.if-not-is_served.true in
    refuses_asks os NotServed _ (unserved_understood os (omega arith) (omega arith) c.if-number-gt42.false up unserved)

pub returns-in-Ok : goal.returns-in-Ok
unfolding number_in
returns-in-Ok c none =
    let os = c.args.octets.now in
    let served = sym (c.is_served.ensures ∙ served_at _ _ c.way_of-way.ensures) ∙ c.if-not-is_served.false in
    rw c.from-read.ensures (head_asks os _ _ _ c.in-Ok.ensures none (bytes_at os (λ i. omega (arith, c.type_inv.octets i))) served)

pub returns-in-Err : goal.returns-in-Err
unfolding number_in
returns-in-Err c none =
    let os = c.args.octets.now in
    let up = sym (c.goes_up.ensures ∙ up_at _ _ c.way_of-way.ensures) ∙ c.if-not-goes_up.false in
    let served = sym (c.is_served.ensures ∙ served_at _ _ c.way_of-way.ensures) ∙ c.if-not-is_served.false in
    codec_asks os _ _ _ c.in-Err.ensures (read_understood os (omega arith) (omega arith) c.if-number-gt42.false up served) _ c.reply_of.ensures
