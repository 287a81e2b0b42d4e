-- What the tables say, with users by their ids and every list ascending: places do not show.
use Rattle.std.specs.Prelude.{ℕ, List, [], ◌∷◌, ◌++◌, false, length}
use Rattle.cols_spec.specs.Sets.{each, keep, has}
use Rattle.cols_spec.specs.Places.{At, Nowhere, find, in_order, load, used}
use Rattle.domain.specs.declared.channel.Kind.{Kind}
use Rattle.domain.specs.declared.channel.Kind.TheVariants.{Static, User, Private, Assigned}
use Rattle.domain.specs.declared.channel.Channel.{Channel}
use Rattle.domain.specs.declared.token.Holding.{Holding}
use Rattle.domain.specs.declared.token.Holding.TheVariants.{Free, Grabbed, Inhibited, Giving, Given}
use Rattle.domain.specs.Cells.{no_channel, kind}
use Rattle.domain.specs.Tables.{Users, Domain, name, link, state}

-- the ids of the users at the places of a mask, ascending
unfoldable pub named : Users → ℕ → List ℕ
named us m = keep (λ u. elim (find us.ids u) [ At i ↦ has m i | Nowhere ↦ false ]) (in_order us.ids)

unfoldable pub counted : List ℕ → List ℕ
counted xs = length xs ∷ xs

unfoldable pub kind_view : Users → Kind → List ℕ
kind_view us Static = 0 ∷ []
kind_view us User = 1 ∷ []
kind_view us (Private m adm) = 2 ∷ name us m ∷ counted (named us adm)
kind_view us Assigned = 3 ∷ []

unfoldable pub channel_view : Users → ℕ → Channel → List ℕ
channel_view us c ch = c ∷ ch.marks ∷ kind_view us (kind ch)

unfoldable pub state_view : Users → Holding → List ℕ
state_view us Free = 0 ∷ []
state_view us (Grabbed g) = 1 ∷ name us g ∷ []
state_view us (Inhibited is) = 2 ∷ counted (named us is)
state_view us (Giving g r) = 3 ∷ name us g ∷ name us r ∷ []
state_view us (Given r) = 4 ∷ name us r ∷ []

unfoldable pub view : Domain → List ℕ
view d =
    d.links ∷ used d.users.ids ∷ used d.channels.ids ∷ used d.tokens.ids
    ∷ each (λ u. u ∷ link d.users (elim (find d.users.ids u) [ At i ↦ i | Nowhere ↦ 64 ]) ∷ []) (in_order d.users.ids)
    ++ each (λ c. channel_view d.users c (load d.channels.cells (find d.channels.ids c) no_channel)) (in_order d.channels.ids)
    ++ each (λ k. k ∷ state_view d.users (state d.tokens k)) (in_order d.tokens.ids)
