-- What requests about users and channels do: the tables after them, and the records to send, in their order. `new` is the id that a new user,
-- assigned or private channel gets; `full` says that the channel limit is reached.
use Rattle.std.specs.Prelude.{ℕ, zero, suc, Bool, false, ◌||◌, List, [], ◌∷◌, eqb, ltb, if◌then◌else◌}
use Rattle.std.proofs.Math.Option.{Option, none, some}
use Rattle.cols_spec.specs.Sets.{keep, any, null, each, below, member, once, has, those, with, without, minus, meet, union, only, connections, seats}
use Rattle.cols_spec.specs.Places.{Place, At, Nowhere, find, found, load}
use Rattle.codec_table.specs.Named.{Message, AUcf, CJcf, CCcf, CDin, CAin, CEin, successful, no_such_channel, not_admitted, other_user_id, too_many_channels, too_many_users}
use Rattle.out_records.specs.Records.{Sent, to, tell}
use Rattle.domain.specs.declared.channel.Kind.{Kind}
use Rattle.domain.specs.declared.channel.Kind.TheVariants.{Static, User, Private, Assigned}
use Rattle.domain.specs.declared.channel.Channel.{Channel}
use Rattle.domain.specs.Cells.{no_channel, kind, channel_of, with_marks, with_guests}
use Rattle.domain.specs.Tables.{Users, Channels, attached, add_user, hosts, channel, add_channel, set_channel, end_channel, sweep_channels, narrowed}
use Rattle.domain.specs.Effects.{Effect, ignored, done, from}

-- AUrq. At the user limit too-many-users, else at the channel limit too-many-channels, else a user with its user id channel. AUcf to p
unfoldable pub attach : (new : ℕ) (users_full full : Bool) (us : Users) (cs : Channels) (p : ℕ) → Effect (Users × Channels)
attach new users_full full us cs p =
    if users_full then done (us, cs) (to p (AUcf too_many_users none) ∷ [])
    else if full then done (us, cs) (to p (AUcf too_many_channels none) ∷ [])
    else done (add_user us new p, add_channel cs new (channel_of User 0)) (to p (AUcf successful (some new)) ∷ [])

-- may the user u, at place i, join channel c of this kind: another's user id, other-user-id; private, manager or admitted only, else not-admitted
unfoldable pub may : (k : Kind) (c u i : ℕ) → ℕ
may Static c u i = successful
may User c u i = if eqb c u then successful else other_user_id
may (Private m adm) c u i = if eqb m i || has adm i then successful else not_admitted
may Assigned c u i = successful

-- CJrq for a channel in use. Success marks p as joined; again is success
unfoldable pub join_at : (cs : Channels) (p u c j n : ℕ) → Effect Channels
join_at cs p u c j zero =
    done (set_channel cs j (with_marks (channel cs j) (with connections (channel cs j).marks p))) (to p (CJcf successful u c (some c)) ∷ [])
join_at cs p u c j (suc n) = done cs (to p (CJcf (suc n) u c none) ∷ [])

-- CJrq for a channel not in use. From 1001, no-such-channel. Else, at the limit, too-many-channels. Channel 0: a new assigned channel; 1 to
-- 1000: created. p is joined
unfoldable pub join_new : (new : ℕ) (full : Bool) (cs : Channels) (p u c : ℕ) → Effect Channels
join_new new full cs p u c =
    if ltb 1000 c then done cs (to p (CJcf no_such_channel u c none) ∷ [])
    else if full then done cs (to p (CJcf too_many_channels u c none) ∷ [])
    else if eqb c 0 then done (add_channel cs new (channel_of Assigned (only connections p))) (to p (CJcf successful u c (some new)) ∷ [])
    else done (add_channel cs c (channel_of Static (only connections p))) (to p (CJcf successful u c (some c)) ∷ [])

unfoldable pub join : (new : ℕ) (full : Bool) (us : Users) (cs : Channels) (p u c : ℕ) → Effect Channels
join new full us cs p u c = from us p u λ i. elim (find cs.ids c) [
  | At j ↦ join_at cs p u c j (may (kind (channel cs j)) c u i)
  | Nowhere ↦ join_new new full cs p u c
]

-- CLrq. p leaves each listed channel it had joined; none, ignored. A static or assigned channel with nobody joined ends
unfoldable pub joined : (cs : Channels) (p c : ℕ) → Bool
joined cs p c = has (load cs.cells (find cs.ids c) no_channel).marks p

unfoldable pub left : (p : ℕ) (ids : List ℕ) (c : ℕ) (ch : Channel) → Option Channel
left p ids c ch = if member c ids then narrowed ch (without connections ch.marks p) else some ch

unfoldable pub leave_channels : (cs : Channels) (p : ℕ) (ids : List ℕ) → Effect Channels
leave_channels cs p ids = if any (joined cs p) ids then done (sweep_channels (left p ids) cs) [] else ignored

-- CCrq. A new private channel, manager the initiator, nobody admitted or joined; or too-many-channels. CCcf to p
unfoldable pub convene : (new : ℕ) (full : Bool) (us : Users) (cs : Channels) (p u : ℕ) → Effect Channels
convene new full us cs p u = from us p u λ i.
    if full then done cs (to p (CCcf too_many_channels u none) ∷ [])
    else done (add_channel cs new (channel_of (Private i 0) 0)) (to p (CCcf successful u (some new)) ∷ [])

-- Only for a private channel by its manager, else ignored; `act` goes on with the manager's place and the admitted
unfoldable pub owned : (k : Kind) (i : ℕ) (act : (ℕ → ℕ → Effect Channels)) → Effect Channels
owned Static i act = ignored
owned User i act = ignored
owned (Private m adm) i act = if eqb m i then act m adm else ignored
owned Assigned i act = ignored

unfoldable pub manages : (us : Users) (cs : Channels) (p u c : ℕ) (act : (ℕ → ℕ → ℕ → Effect Channels)) → Effect Channels
manages us cs p u c act = from us p u λ i. elim (find cs.ids c) [
  | At j ↦ owned (kind (channel cs j)) i (act j)
  | Nowhere ↦ ignored
]

-- CDrq ends it; CDin to each connection with its manager or an admitted user
unfoldable pub disband : (us : Users) (cs : Channels) (p u c : ℕ) → Effect Channels
disband us cs p u c = manages us cs p u c λ j m adm. done (end_channel cs j) (tell (hosts us (with seats adm m)) (CDin c))

-- place i is where a user stands; the places of listed users
abbrev pub stands : (i : ℕ) (at : Place) → Bool
stands i at = elim at [ At j ↦ eqb j i | Nowhere ↦ false ]

unfoldable pub places : Users → List ℕ → ℕ
places us ids = those seats λ i. any (λ u. stands i (find us.ids u)) ids

-- to each connection with such ids, its own only, in list order
unfoldable pub own : (us : Users) (ids : List ℕ) (say : (List ℕ → Message)) → List Sent
own us ids say =
    each (λ q.
    let mine = keep (λ u. found (attached us q u)) ids in
    if null mine then [] else to q (say mine) ∷ []) (below connections)

-- of listed ids those attached, and those admitted, each once
unfoldable pub attached_of : Users → List ℕ → List ℕ
attached_of us ids = keep (λ v. found (find us.ids v)) (once ids)

unfoldable pub admitted_of : (us : Users) (adm : ℕ) (ids : List ℕ) → List ℕ
admitted_of us adm ids = keep (λ v. elim (find us.ids v) [ At i ↦ has adm i | Nowhere ↦ false ]) (once ids)

-- CArq admits the listed ids that are attached, one already admitted or the manager's too; none, ignored. CAin
unfoldable pub admit : (us : Users) (cs : Channels) (p u c : ℕ) (ids : List ℕ) → Effect Channels
admit us cs p u c ids = manages us cs p u c λ j m adm.
    let let_in = attached_of us ids in
    if null let_in then ignored
    else done (set_channel cs j (with_guests (channel cs j) (union seats adm (places us let_in)) (channel cs j).marks)) (own us let_in (CAin u c))

-- a connection is joined to a private channel only while its manager m or an admitted user is attached there; otherwise the mark goes
unfoldable pub private_marks : (us : Users) (ch : Channel) (m adm joined : ℕ) → Channel
private_marks us ch m adm joined = with_guests ch adm (meet connections joined (hosts us (with seats adm m)))

-- CErq expels the listed ids that are admitted; none left, ignored. CEin
unfoldable pub expel : (us : Users) (cs : Channels) (p u c : ℕ) (ids : List ℕ) → Effect Channels
expel us cs p u c ids = manages us cs p u c λ j m adm.
    let out = admitted_of us adm ids in
    if null out then ignored
    else done (set_channel cs j (private_marks us (channel cs j) m (minus seats adm (places us out)) (channel cs j).marks)) (own us out (CEin c))
