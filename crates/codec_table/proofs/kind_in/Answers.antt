use Rattle.codec_table.proofs.ColumnLaws.{none_of, kind_none}
use Rattle.codec_table.specs.Columns.{kind_in}
use Rattle.codec_table.proofs.kind_in.Goals as goal

pub returns-in-0 : goal.returns-in-0
unfolding kind_in
returns-in-0 c = rw c.in-0.is

pub returns-in-1 : goal.returns-in-1
unfolding kind_in
returns-in-1 c = rw c.in-1.is

pub returns-in-2 : goal.returns-in-2
unfolding kind_in
returns-in-2 c = rw c.in-2.is

pub returns-in-3 : goal.returns-in-3
unfolding kind_in
returns-in-3 c = rw c.in-3.is

pub returns-in_default : goal.returns-in_default
returns-in_default c = kind_none _ _ (none_of 4 c.in_default.in_default-own.rest)
