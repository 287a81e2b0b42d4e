use borrow.Enum.Refused.{opened}
use mathlib.Core.Path.{refl, ap}
use mathlib.Core.List.{List}
use Rattle.codec_table.specs.Named.{TVcf}
use Rattle.out_records.specs.Records.{Sent}
use Rattle.domain.specs.Tokens.{status}
use Rattle.domain.specs.Tables.{link, name, set_token}
use Rattle.domain.specs.Effects.{done}
use Rattle.domain.specs.Passing.{informed}
use Rattle.domain_tables.specs.Held.{users_in}
use Rattle.serve_token_rules.proofs.Deciding.{turns, quiet_turns, silent}
use Rattle.serve_token_rules.proofs.concluded.Goals as goal

pub returns-in-Giving : goal.returns-in-Giving
unfolding informed link name
returns-in-Giving c =
    λ ts. let a = c.args in
    let g = c.in-Giving.g in
    turns ts a.k (TVcf a.res c.name.result a.k (status a.next g)) c.confirm.ensures a.next c.from.ensures (rw (c.in-Giving.is, c.name.ensures, c.link.ensures) refl)

pub returns : goal.returns
returns c =
    λ ts. let a = c.args in
    quiet_turns ts a.k a.next c.from.ensures
    (ap (λ (rs : List Sent). done (set_token ts a.k a.next) rs) (silent (users_in a.users.now) a.res a.k a.h a.next (opened c.in_default.in_default-own.keys2)))
