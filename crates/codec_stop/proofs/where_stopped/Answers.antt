-- `codec_stop::where_stopped` meets its contract: the refusal is that of decode. Assumes nothing.
use mathlib.Core.Path.{ap, ◌∙◌}
use Rattle.codec_stop.specs.Stops.{told}
use Rattle.codec_stop.proofs.StopLaws.{told_is}
use Rattle.codec_stop.proofs.where_stopped.Goals as goal

pub returns : goal.returns
returns c = ap told (c.stop_message.ensures ∙ c.err.ensures.value) ∙ told_is _ _ _ c.decode.ensures
