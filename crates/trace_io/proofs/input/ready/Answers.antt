-- `trace_io::input::ready` meets its contract: each turn brings an octet more, or the input has ended. Assumes nothing.
use mathlib.Core.Bool.{Bool, false, ◌||◌}
use mathlib.Core.Path.{◌≡◌, refl, sym, ◌∙◌}
use Rattle.trace_io.proofs.Moves.{since_start, since_on, less, ready_is, or_left}
use Rattle.trace_io.proofs.input.ready.Goals as goal

-- a test that says no says that the input has not ended
unsettled : (a b : Bool) {t : Bool} → t ≡ (a || b) → t ≡ false → a ≡ false
unsettled a b e f = or_left a b (sym e ∙ f)

pub clipped-span-requires : goal.clipped-span-requires
clipped-span-requires g c = tt

pub loop-input-init : goal.loop-input-init
loop-input-init g c = (refl, since_start c.args.buf.now c.clipped-span.result c.clipped-span.ensures.1)

pub settled-requires : goal.settled-requires
settled-requires g c = c.loop-input.invariant.1.within

pub refill-span-requires : goal.refill-span-requires
refill-span-requires g c = c.loop-input.invariant.1.within

pub loop-input-smaller : goal.loop-input-smaller
loop-input-smaller g c =
    let l = c.loop-input in
    let r = c.refill-span in
    less l.buf l.span r.new.buf r.result r.auto.buf l.invariant.1.within (unsettled l.span.ended _ c.settled.ensures c.loop-input-test.true) r.ensures

pub loop-input-preserved : goal.loop-input-preserved
loop-input-preserved g c = (c.refill-span.auto.buf ∙ c.loop-input.invariant.0, since_on c.loop-input.invariant.1 c.refill-span.ensures)

pub shape_of-buf : goal.shape_of-buf
shape_of-buf g c = c.loop-input.invariant.0

pub returns : goal.returns
returns g c = ready_is c.clipped-span.ensures.0 c.loop-input.invariant.1 (sym c.settled.ensures ∙ c.loop-input-test.false)
