-- `trace_io::lines::put_field` meets its contract: the digits are the number's, and at most twenty. Assumes nothing.
use native.Mathlib.Omega.{arith}
use Rattle.trace_io.proofs.Texts.{few, field_put}
use Rattle.trace_io.proofs.lines.put_field.Goals as goal

pub lay-requires : goal.lay-requires
lay-requires c = omega (arith, few c.args.n c.decimal-k.result c.ranges.n.fits c.decimal-k.ensures.len)

pub overflow_add-end : goal.overflow_add-end
overflow_add-end c = omega (arith, few c.args.n c.decimal-k.result c.ranges.n.fits c.decimal-k.ensures.len)

pub bounds-text-end : goal.bounds-text-end
bounds-text-end c = omega (arith, few c.args.n c.decimal-k.result c.ranges.n.fits c.decimal-k.ensures.len)

pub overflow_add-result : goal.overflow_add-result
overflow_add-result c = omega (arith, few c.args.n c.decimal-k.result c.ranges.n.fits c.decimal-k.ensures.len)

pub returns : goal.returns
returns c =
    let a = c.args in
    let d = c.decimal-k in
    field_put a.text.now a.at a.n a.mark d.result d.new.out c.lay.new.out
    c.requires
    c.ranges.n.fits
    d.ensures.len
    d.ensures.digits
    d.ensures.in_bounds.1
    c.lay.ensures
