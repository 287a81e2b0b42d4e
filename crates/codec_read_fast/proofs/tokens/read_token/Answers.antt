use native.Mathlib.Omega.{arith}
use Rattle.codec_read_fast.proofs.Shapes.{no_token}
use Rattle.codec_read_fast.proofs.tokens.read_token.Goals as goal

pub returns-then-s-lt5 : goal.returns-then-s-lt5
returns-then-s-lt5 c = no_token c.type_inv.s (omega arith)

pub returns-then-s-lt-TGRQ : goal.returns-then-s-lt-TGRQ
returns-then-s-lt-TGRQ c = no_token c.type_inv.s (omega arith)

pub returns-in_default : goal.returns-in_default
returns-in_default c = no_token c.type_inv.s (omega arith)
