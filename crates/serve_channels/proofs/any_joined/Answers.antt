use mathlib.Core.Path.{◌∙◌}
use Rattle.std.proofs.Common.{rules, tests}
use Rattle.std.proofs.lemmas.Iterator.{YieldsList-from_slice}
use Rattle.std.proofs.lemmas.Iterator.Search.{any_from_yields_List}
use Rattle.domain.specs.Channels.{joined}
use Rattle.domain_tables.specs.Held.{channels_in}
use Rattle.serve_channels.proofs.Parting.{any_is}
use Rattle.serve_channels.proofs.any_joined.Goals as goal

pub returns : goal.returns
returns c = let a = c.args in
    any_from_yields_List (joined (channels_in a.channels.now a.members.now) a.p) _ _ _ c.any.ensures.ran (YieldsList-from_slice a.listed.now (cc)) (λ x b q k. search (rules, tests))
    ∙ any_is _ a.listed.now
