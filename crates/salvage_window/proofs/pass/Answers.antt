-- `salvage_window::pass` meets its contract. Assumes nothing.
use native.Mathlib.Omega.{arith}
use Rattle.salvage_window.proofs.Answers.{skips_most, passed_is}
use Rattle.salvage_window.proofs.pass.Goals as goal

pub overflow_sub-left : goal.overflow_sub-left
overflow_sub-left c = omega (arith, skips_most c.args.ended c.args.w.now)

pub returns : goal.returns
returns c = passed_is c.args.ended c.args.w.now c.skips-octets.result c.decided.result c.skips-octets.ensures c.decided.ensures
