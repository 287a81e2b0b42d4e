-- `codec_stop::stop_ids` meets its contract: every id that is read lies in the octets. Assumes nothing.
use Prim.Native.Nat.{◌≤◌}
use lib.ListN.{length}
use Rattle.codec_stop.proofs.stop_ids.Given as goal

abbrev pub invariant-loop : goal.invariant-loop
invariant-loop l = l.at ≤ length l.s
