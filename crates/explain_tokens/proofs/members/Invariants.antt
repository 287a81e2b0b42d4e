use Rattle.cols_spec.specs.Sets.{has}
use Rattle.explain_tokens.specs.Holders.{picked_from}
use Rattle.explain_tokens.proofs.HolderLaws.{Filled}
use Rattle.explain_tokens.proofs.members.Given as goal

abbrev pub invariant-loop-i : goal.invariant-loop-i
invariant-loop-i l = Filled (picked_from (has l.us) 0 l.users.ids) l.i l.ids
