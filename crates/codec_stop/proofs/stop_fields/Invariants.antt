-- `codec_stop::stop_fields` meets its contract: each field ends in the octets. Assumes nothing.
use Prim.Native.Nat.{◌≤◌, ◌*◌}
use lib.ListN.{length}
use Rattle.codec_stop.proofs.stop_fields.Given as goal

abbrev pub invariant-loop-i : goal.invariant-loop-i
invariant-loop-i l = l.bit ≤ length l.s * 8
