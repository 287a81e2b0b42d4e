-- What is free is not counted; else all are.
use borrow.Author.Tests.{lt-leb}
use Rattle.domain.specs.Tables.{at_limit}
use Rattle.domain_tables.proofs.at_limit.Goals as goal

pub returns-then-last_free : goal.returns-then-last_free
unfolding at_limit
returns-then-last_free c = rw (lt-leb _ _ (c.last_free.ensures c.if-last_free.true))

pub used-requires : goal.used-requires
used-requires c = tt

pub returns : goal.returns
unfolding at_limit
returns c = rw c.used.ensures
