use Rattle.codec_read_fast.specs.Shortly.{in_full}
use Rattle.codec_read_fast.proofs.in_full.Goals as goal

pub returns : goal.returns
unfolding in_full
returns c = c.of_values.ensures
