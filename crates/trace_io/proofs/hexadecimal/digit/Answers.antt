-- `trace_io::hexadecimal::digit` meets its contract. Assumes nothing.
use Rattle.trace_io.specs.Hexadecimal.{digit_of}
use borrow.Author.Tests.{lt-ltb, le-ltb}
use borrow.Author.Rules.{rules}
use Rattle.trace_io.proofs.hexadecimal.digit.Goals as goal

pub returns-then-n-lt10 : goal.returns-then-n-lt10
unfolding digit_of
returns-then-n-lt10 c = rw (lt-ltb _ _ c.if-n-lt10.true) (search rules)

pub returns-else-n-lt10 : goal.returns-else-n-lt10
unfolding digit_of
returns-else-n-lt10 c = rw (le-ltb _ _ c.if-n-lt10.false) (search rules)
