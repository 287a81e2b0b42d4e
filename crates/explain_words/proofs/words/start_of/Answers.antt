-- `explain_words::words::start_of` meets its contract. Assumes nothing.
use Rattle.explain_words.proofs.WordLaws.{row_at, row_none}
use native.Mathlib.Omega.{arith}
use Rattle.explain_words.proofs.words.start_of.Goals as goal

pub returns-then-n-lt-NONE : goal.returns-then-n-lt-NONE
returns-then-n-lt-NONE c = (omega arith, row_at c.args.n (omega arith))

pub returns-else-n-lt-NONE : goal.returns-else-n-lt-NONE
returns-else-n-lt-NONE c = (omega arith, row_none c.args.n (omega arith))
