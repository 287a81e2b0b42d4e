use Rattle.domain.specs.Tables.{set_channel}
use borrow.Author.Rules.{rules}
use Rattle.domain_tables.specs.Held.{users_in, channels_in}
use Rattle.serve_private.proofs.Admitting.{change_else, change_done}
use Rattle.serve_private.proofs.change.Goals as goal

pub returns-then-eq : goal.returns-then-eq
unfolding set_channel
returns-then-eq c =
    let a = c.args in
    let t = c.tell_chosen-told in
    change_done (users_in a.users.now) (channels_in a.channels.now a.members.now) a.j a.s _ a.out.now _ c.at-ch.ensures _ c.pick_for.ensures t.ensures.0 (search rules) _ t.ensures.1 _ c.with_change.ensures _ (λ i. record { ids = c.put.ensures.ids i; cells = c.put.ensures.cells i })

pub returns-else-eq : goal.returns-else-eq
returns-else-eq c =
    let a = c.args in
    let t = c.tell_chosen-told in
    change_else (users_in a.users.now) (channels_in a.channels.now a.members.now) a.j a.s _ a.out.now _ c.at-ch.ensures _ c.pick_for.ensures t.ensures.0 (search rules)
