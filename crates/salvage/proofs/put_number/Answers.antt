-- `salvage::put_number` meets its contract. Assumes nothing.
use mathlib.Core.Path.{ap, ◌∙◌}
use native.Mathlib.Omega.{arith}
use lib.Seq.{sets}
use Rattle.salvage.proofs.Laying.{eight}
use Rattle.salvage.proofs.put_number.Goals as goal

pub returns : goal.returns
returns c = let a = c.args in c.lay.ensures ∙ ap (sets a.list.now a.at) (c.to_be_bytes.ensures ∙ eight a.n (omega arith))
