use lib.Seq.{lt-length-set}
use Rattle.codec_write.proofs.PutLaws.{at_within, sum_within, sum_across, at_across, puts_within, puts_none, puts_across, puts_start}
use Rattle.codec_write.proofs.put_bits.Goals as goal

pub bounds-s-i : goal.bounds-s-i
bounds-s-i c = at_within c.args.s.now _ _ _ _ c.left_at-left.ensures.0 c.left_at-left.ensures.1 c.requires.0 c.requires.2 c.requires.3 c.requires.4 c.requires.5 c.if-width-left.true c.if-left-gt0.true

pub overflow_add-s : goal.overflow_add-s
overflow_add-s c = record { fits = sum_within c.args.s.now _ _ _ _ c.left_at-left.ensures.0 c.left_at-left.ensures.1 c.requires.0 c.requires.2 c.requires.3 c.requires.4 c.requires.5 c.if-width-left.true c.if-left-gt0.true }

pub bounds-s-i-then-left-gt0 : goal.bounds-s-i-then-left-gt0
bounds-s-i-then-left-gt0 c = at_within c.args.s.now _ _ _ _ c.left_at-left.ensures.0 c.left_at-left.ensures.1 c.requires.0 c.requires.2 c.requires.3 c.requires.4 c.requires.5 c.if-width-left.true c.if-left-gt0.true

pub overflow_add-s-then-left-gt0-2 : goal.overflow_add-s-then-left-gt0-2
overflow_add-s-then-left-gt0-2 c = record { fits = sum_across c.args.s.now _ _ _ _ c.left_at-left.ensures.0 c.left_at-left.ensures.1 c.requires.0 c.requires.2 c.requires.3 c.requires.4 c.requires.5 c.if-width-left.false c.if-left-gt0-2.true }

pub bounds-s-i-then-left-gt0-2-3 : goal.bounds-s-i-then-left-gt0-2-3
bounds-s-i-then-left-gt0-2-3 c = lt-length-set c.args.s.now _ _ (at_across c.args.s.now _ _ _ _ c.left_at-left.ensures.0 c.left_at-left.ensures.1 c.requires.0 c.requires.2 c.requires.3 c.requires.4 c.requires.5 c.if-width-left.false c.if-left-gt0-2.true)

pub returns-then-left-gt0 : goal.returns-then-left-gt0
returns-then-left-gt0 c = puts_within _ _ _ _ _ c.left_at-left.ensures.0 c.left_at-left.ensures.1 c.requires.0 c.requires.2 c.requires.3 c.requires.4 c.requires.5 c.if-width-left.true c.if-left-gt0.true

pub returns-else-left-gt0 : goal.returns-else-left-gt0
returns-else-left-gt0 c = puts_none _ _ _ _ _ c.left_at-left.ensures.0 c.left_at-left.ensures.1 c.requires.0 c.requires.2 c.requires.3 c.requires.4 c.requires.5 c.if-width-left.true c.if-left-gt0.false

pub returns-then-left-gt0-2 : goal.returns-then-left-gt0-2
returns-then-left-gt0-2 c = puts_across _ _ _ _ _ c.left_at-left.ensures.0 c.left_at-left.ensures.1 c.requires.0 c.requires.2 c.requires.3 c.requires.4 c.requires.5 c.if-width-left.false c.if-left-gt0-2.true

pub returns-else-left-gt0-2 : goal.returns-else-left-gt0-2
returns-else-left-gt0-2 c = puts_start _ _ _ _ _ c.left_at-left.ensures.0 c.left_at-left.ensures.1 c.requires.0 c.requires.2 c.requires.3 c.requires.4 c.requires.5 c.if-width-left.false c.if-left-gt0-2.false
