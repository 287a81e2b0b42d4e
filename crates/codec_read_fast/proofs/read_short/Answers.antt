use native.Mathlib.Omega.{arith}
use Rattle.codec_read_fast.proofs.Shapes.{no_short}
use Rattle.codec_read_fast.proofs.read_short.Goals as goal

pub returns-in_default : goal.returns-in_default
returns-in_default c = no_short c.type_inv.s (omega arith)
