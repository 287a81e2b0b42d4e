use Rattle.codec_octets.specs.Places.{behind}
use lib.ListN.{length-drop}
use Prim.Native.Nat.{◌+◌, ◌/◌}
use native.Mathlib.Omega.{arith}
use Rattle.codec_cursor.proofs.left_behind.Goals as goal

pub returns-then-s-n : goal.returns-then-s-n
unfolding behind
returns-then-s-n c = omega (arith, length-drop ((c.args.at + 7) / 8) c.args.s.now)

pub returns-then-at-eq0 : goal.returns-then-at-eq0
unfolding behind
returns-then-at-eq0 c = omega (arith, length-drop ((c.args.at + 7) / 8) c.args.s.now)

pub returns-else-at-eq0 : goal.returns-else-at-eq0
unfolding behind
returns-else-at-eq0 c = omega (arith, length-drop ((c.args.at + 7) / 8) c.args.s.now)
