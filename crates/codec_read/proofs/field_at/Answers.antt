use Rattle.codec_read.specs.Fields.{field_at}
use borrow.Author.Tests.{le-leb, lt-leb}
use Rattle.codec_read.proofs.field_at.Goals as goal

pub returns-then-s-gt-MESSAGE_LIMIT : goal.returns-then-s-gt-MESSAGE_LIMIT
unfolding field_at
returns-then-s-gt-MESSAGE_LIMIT c = record { same = simp (lt-leb _ _ c.if-s-gt-MESSAGE_LIMIT.true); leaves = tt; inside = tt }

pub returns-then-s-at : goal.returns-then-s-at
unfolding field_at
returns-then-s-at c = record { same = simp (le-leb _ _ c.if-s-gt-MESSAGE_LIMIT.false, lt-leb _ _ c.if-s-at.true); leaves = tt; inside = tt }

pub returns : goal.returns
unfolding field_at
returns c = rw (le-leb _ _ c.if-s-gt-MESSAGE_LIMIT.false, le-leb _ _ c.if-s-at.false) c.take_field.ensures
