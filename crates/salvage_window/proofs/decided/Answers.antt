-- `salvage_window::decided` meets its contract. Assumes nothing.
use Rattle.salvage_window.proofs.decided.Goals as goal

pub returns : goal.returns
returns c = rw c.if-ended.false
