use mathlib.Core.Path.{refl}
use Rattle.codec_read_fast.specs.Shortly.{of_values}
use Rattle.codec_read_fast.proofs.of_values.Goals as goal

pub returns : goal.returns
unfolding of_values
returns c = rw c.count_of.ensures.0 refl
