use mathlib.Core.Path.{sym, ◌∙◌}
use mathlib.Core.Bool.{false≢true}
use Rattle.serve_private.proofs.Managing.{private_is, owned_yes, owned_no, owned_other}
use Rattle.serve_private.proofs.presides.Goals as goal

pub returns-in-Private : goal.returns-in-Private
returns-in-Private c = let is = private_is c.args.ch _ _ (sym c.from.ensures ∙ c.in-Private.is) in
    record { yes = λ t go. owned_yes _ _ is go t; no = λ f go. owned_no _ _ is go f }

pub returns-in-Static : goal.returns-in-Static
returns-in-Static c = record { yes = λ t. absurd (false≢true t); no = λ f go. owned_other _ _ c.from.ensures c.in-Static.is _ go }
