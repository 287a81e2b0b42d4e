-- `trace_frames::good_size` meets its contract: the size of what the frame reader found. Assumes nothing.
use Rattle.trace_frames.proofs.Good.{none_over, none_refused, some_frame}
use Rattle.trace_frames.proofs.good_size.Goals as goal

pub returns-in-End : goal.returns-in-End
returns-in-End c = none_over _ c.in-End.ensures

pub returns-in-Good : goal.returns-in-Good
returns-in-Good c = some_frame _ _ _ _ _ c.in-Good.ensures

pub returns-in-Bad : goal.returns-in-Bad
returns-in-Bad c = none_refused _ 11 c.in-Bad.ensures
