-- Leaving: the users at the places `gone` leave together, and the connections `live` remain. All is judged on the tables before.
use Rattle.std.specs.Prelude.{ℕ, not, ◌&&◌, List, [], ◌∷◌, ◌++◌, if◌then◌else◌}
use Rattle.std.proofs.Math.Option.{Option, none, some}
use Rattle.cols_spec.specs.Sets.{keep, null, each, once, has, without, with, minus, meet, connections, seats}
use Rattle.cols_spec.specs.Places.{At, Nowhere, find, found, in_order, load}
use Rattle.codec_table.specs.Named.{DUin, CDin, TVcf, no_such_user, domain_disconnected}
use Rattle.out_records.specs.Records.{Sent, to, tell}
use Rattle.domain.specs.declared.channel.Kind.{Kind}
use Rattle.domain.specs.declared.channel.Kind.TheVariants.{Static, User, Private, Assigned}
use Rattle.domain.specs.declared.channel.Channel.{Channel}
use Rattle.domain.specs.declared.token.Holding.{Holding}
use Rattle.domain.specs.declared.token.Holding.TheVariants.{Free, Grabbed, Inhibited, Giving, Given}
use Rattle.domain.specs.Cells.{no_channel, kind}
use Rattle.domain.specs.Tables.{Users, Domain, name, link, attached, remove_users, hosts, sweep_channels, narrowed, state, sweep_tokens}
use Rattle.domain.specs.Tokens.{status, lose}
use Rattle.domain.specs.Effects.{Effect, ignored, done}
use Rattle.domain.specs.Channels.{places, private_marks}

-- A leaver's user id channel ends; private channels it managed end; it is admitted nowhere. Marks of a closed connection go
unfoldable pub fate_of : (us : Users) (gone live c : ℕ) (ch : Channel) (k : Kind) → Option Channel
fate_of us gone live c ch Static = narrowed ch (meet connections ch.marks live)
fate_of us gone live c ch User = elim (find us.ids c) [
  | At i ↦ if has gone i then none else narrowed ch (meet connections ch.marks live)
  | Nowhere ↦ narrowed ch (meet connections ch.marks live)
]
fate_of us gone live c ch (Private g adm) = if has gone g then none else some (private_marks us ch g (minus seats adm gone) (meet connections ch.marks live))
fate_of us gone live c ch Assigned = narrowed ch (meet connections ch.marks live)

unfoldable pub fate : (us : Users) (gone live c : ℕ) (ch : Channel) → Option Channel
fate us gone live c ch = fate_of us gone live c ch (kind ch)

-- CDin to the open connections that held the manager or admitted users of a private channel whose manager leaves
unfoldable pub ended : (us : Users) (gone live c : ℕ) (k : Kind) → List Sent
ended us gone live c Static = []
ended us gone live c User = []
ended us gone live c (Private g adm) = if has gone g then tell (meet connections (hosts us (with seats adm g)) live) (CDin c) else []
ended us gone live c Assigned = []

-- TVcf no-such-user to a giver who stays where the recipient leaves
unfoldable pub returned : (us : Users) (gone k : ℕ) (h : Holding) → List Sent
returned us gone k Free = []
returned us gone k (Grabbed g) = []
returned us gone k (Inhibited is) = []
returned us gone k (Giving g r) =
    if has gone r && not (has gone g)
    then to (link us g) (TVcf no_such_user (name us g) k (status (lose gone (Giving g r)) g)) ∷ []
    else []
returned us gone k (Given r) = []

-- DUin by connection, none where nobody leaves; CDin by channel, then connection; TVcf by token
unfoldable pub farewell : (d : Domain) (gone live reason : ℕ) (ids : List ℕ) → List Sent
farewell d gone live reason ids =
    (if null ids then [] else tell live (DUin reason ids))
    ++ each (λ c. ended d.users gone live c (kind (load d.channels.cells (find d.channels.ids c) no_channel))) (in_order d.channels.ids)
    ++ each (λ k. returned d.users gone k (state d.tokens k)) (in_order d.tokens.ids)

unfoldable pub leave : (d : Domain) (live reason : ℕ) (ids : List ℕ) → Effect Domain
leave d live reason ids =
    let gone = places d.users ids in
    done
    (record {
      limits = d.limits;
      links = live;
      users = remove_users d.users gone;
      channels = sweep_channels (fate d.users gone live) d.channels;
      tokens = sweep_tokens (lose gone) d.tokens;
    })
    (farewell d gone live reason ids)

-- of listed ids those attached on p
unfoldable pub those_on : (us : Users) (p : ℕ) (ids : List ℕ) → List ℕ
those_on us p ids = keep (λ u. found (attached us p u)) ids

-- DUrq. Listed ids on p leave together, each once; none, ignored. DUin with the same reason and these ids, in list order
unfoldable pub detach : (d : Domain) (p reason : ℕ) (ids : List ℕ) → Effect Domain
detach d p reason ids =
    let out = those_on d.users p (once ids) in
    if null out then ignored else leave d d.links reason out

-- DPum, RJum, loss. p closes; its users leave together, reason 0 (domain disconnected), ids ascending
unfoldable pub close : Domain → ℕ → Effect Domain
close d p = leave d (without connections d.links p) domain_disconnected (those_on d.users p (in_order d.users.ids))
