-- A free place is one whose id is 0.
use Rattle.cols_spec.specs.Places.{spare}
use Rattle.cols_find.proofs.spare.Goals as goal

pub returns : goal.returns
unfolding spare
returns c = c.first.ensures
