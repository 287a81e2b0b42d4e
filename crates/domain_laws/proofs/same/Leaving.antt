-- Leaving, on tables that say the same: the same records, and tables that say the same. Assumes nothing.
use Rattle.std.specs.Prelude.{if◌then◌else◌}
use mathlib.Core.Path.{◌≡◌, refl, sym, ap, ap₂, ◌∙◌, fun_ext, subst₂}
use mathlib.Core.Bool.{Bool, true, false, ◌&&◌}
use mathlib.Core.List.{List, [], ◌++◌}
use mathlib.Core.Option.{Option, none, some}
use Prim.Native.Nat.{ℕ}
use lib.Dec.{eqb}
use lib.ListN.{get_or}
use Rattle.cols_spec.specs.Sets.{keep, null, once, has, without, minus, meet, seats, connections}
use Rattle.cols_spec.specs.Places.{Place, At, Nowhere, find, found, in_order, turns_to}
use Rattle.cols_spec.proofs.Marks.{marks_minus}
use Rattle.cols_spec.proofs.Rows.{At≢Nowhere, At_inj, find_holds, find_there}
use Rattle.cols_spec.proofs.Table.{Table, table_sweep, sweep_used}
use Rattle.cols_spec.proofs.Found.{find_still, find_kept, find_freed}
use Rattle.codec_table.specs.Named.{DUin}
use Rattle.out_records.specs.Records.{Sent, tell}
use Rattle.domain.specs.declared.channel.Kind.{Kind}
use Rattle.domain.specs.declared.channel.Kind.TheVariants.{User, Private}
use Rattle.domain.specs.declared.channel.Channel.{Channel}
use Rattle.domain.specs.declared.token.Holding.{Holding}
use Rattle.domain.specs.declared.token.Holding.TheVariants.{Free}
use Rattle.domain.specs.Cells.{no_channel, kind, channel_of, with_marks, with_guests}
use Rattle.domain.specs.Tables.{Users, Channels, Domain, link, attached, stays_on, remove_users, channel, sweep_channels, lapses, narrowed, sweep_tokens, seen}
use Rattle.domain.specs.Tokens.{lose, lose_offer}
use Rattle.domain.specs.Channels.{places, private_marks}
use Rattle.domain.specs.Leaving.{fate_of, fate, ended, returned, farewell, leave, those_on, detach, close}
use Rattle.domain_laws.specs.Same.{home_of, Role, role_of, channel_at, token_at, Same}
use Rattle.domain.proofs.invariant.Sound.{Seated, Sound}
use Rattle.domain.proofs.invariant.Held.{lose_held}
use Rattle.domain.proofs.invariant.Rooms.{guests_changed}
use Rattle.domain.proofs.holders.Known.{state_swept, unless, find_left, link_left, found_seated}
use Rattle.domain_laws.proofs.same.Twins.{Crowd, Twins, Pair, Match, Where, there, nowhere, where_is, twins_of, twins_found, home_there, home_nowhere, pair_name, pair_link, match_with, match_minus, match_hosts, match_places}
use Rattle.domain_laws.proofs.same.Orders.{each_in_order, in_order_same}
use Rattle.domain_laws.proofs.same.Holdings.{either_by, either, Twin, both_free, both_grabbed, both_inhibited, both_giving, both_given, twin_says, twin_status, twin_set}
use Rattle.domain_laws.proofs.same.Requests.{Both, skip, both}
use Rattle.domain_laws.proofs.same.Passing.{states, tokens_found}
use Rattle.domain_laws.proofs.same.Kinds.{KindTwin, both_static, both_user, both_private, both_assigned, kind_says, kind_lapses, said_of, says, ChannelTwin, ChannelWhere, there as channel_there, nowhere as channel_nowhere, channels_where, channels_found, kinds_read}

-- ---- tokens that lose users: those who stay are pairs in the tables that follow

module _ (us vs us' vs' : Users) (t' : Twins us' vs') (gone gone' : ℕ) (away : (i j : ℕ) → Pair us vs i j → has gone i ≡ has gone' j)
    (pairs : (i j : ℕ) → Pair us vs i j → has gone i ≡ false → Pair us' vs' i j) (sets : (m n : ℕ) → Match us vs m n → Match us' vs' (minus seats m gone) (minus seats n gone')) where
  twin_lose : {h k : Holding} → Twin us vs h k → Twin us' vs' (lose gone h) (lose gone' k)
  unfolding lose lose_offer
  twin_lose both_free = both_free
  twin_lose (both_grabbed {g} {h} p) = either_by (Twin us' vs') (has gone g) (has gone' h) (away g h p) (λ q. both_free) (λ q. both_grabbed (pairs g h p q))
  twin_lose (both_inhibited {m} {n} x) = twin_set us' vs' t' (sets m n x)
  twin_lose (both_giving {g} {h} {r} {s} p q) = either_by (Twin us' vs') (has gone g) (has gone' h) (away g h p)
      (λ a. either_by (Twin us' vs') (has gone r) (has gone' s) (away r s q) (λ b. both_free) (λ b. both_given (pairs r s q b)))
      (λ a. either_by (Twin us' vs') (has gone r) (has gone' s) (away r s q) (λ b. both_grabbed (pairs g h p a)) (λ b. both_giving (pairs g h p a) (pairs r s q b)))
  twin_lose (both_given {r} {s} p) = either_by (Twin us' vs') (has gone r) (has gone' s) (away r s p) (λ q. both_free) (λ q. both_given (pairs r s p q))

-- ---- channels after a sweep

-- a channel with fewer marks
pub marked_says : (us vs : Users) (a b : Channel) (m n : ℕ) → role_of us (kind a) ≡ role_of vs (kind b) → lapses (kind a) ≡ lapses (kind b) → m ≡ n → says us (narrowed a m) ≡ says vs (narrowed b n)
unfolding narrowed kind with_marks
marked_says us vs a b m n e f g = rw (f, g) (go (lapses (kind b) && eqb n 0))
  where
    go : (c : Bool) → says us (if c then none else some (with_marks a n)) ≡ says vs (if c then none else some (with_marks b n))
    go true = refl
    go false = ap (λ (z : Role). some (z, n)) e

pub channel_swept : (us : Users) (cs : Channels) {lim : ℕ} {P : ℕ → ℕ → Channel → Type 0} (t : Table 128 lim no_channel P cs.ids cs.cells) (f : ℕ → Channel → Option Channel) (c : ℕ)
    → channel_at us (sweep_channels f cs) c ≡ seen (find cs.ids c) none (λ j. says us (f c (channel cs j)))
unfolding channel_at sweep_channels channel turns_to
channel_swept us cs t f c = go (find cs.ids c) refl
  where
    by : ℕ → ℕ → Channel → Option Channel
    by j c x = f c x

    view : Place → Option (Role × ℕ)
    view w = seen w none (λ j. some (said_of us (channel (sweep_channels f cs) j)))

    at : (j : ℕ) → find cs.ids c ≡ At j → (o : Option Channel) → f c (channel cs j) ≡ o → view (find (sweep_channels f cs).ids c) ≡ says us o
    at j e none q = ap view (find_freed t by c j e (rw (find_holds cs.ids c j e).0 q))
    at j e (some ch) q =
        let w = find_holds cs.ids c j e in
        let g : by j (get_or cs.ids j 0) (get_or cs.cells j no_channel) ≡ some ch = rw w.0 q in
        ap view (find_kept t by c j e ch g) ∙ ap (λ (z : Channel). some (said_of us z)) (sweep_used t (λ i y z. Unit {0}) by j (rw w.0 w.2) (some ch) g).1

    go : (w : Place) → find cs.ids c ≡ w → view (find (sweep_channels f cs).ids c) ≡ seen w none (λ j. says us (f c (channel cs j)))
    go (At j) e = at j e (f c (channel cs j)) refl
    go Nowhere e = ap view (find_still t by c e)

-- a private channel with other users admitted and other connections joined
pub private_said : (us : Users) (ch : Channel) (g adm m : ℕ) → ch ≡ channel_of (Private g adm) m → (new n : ℕ) → said_of us (with_guests ch new n) ≡ (role_of us (Private g new), n)
unfolding kind channel_of
private_said us ch g adm m e new n = ap (said_of us) (guests_changed ch g adm m e new n)

-- a user's own channel, by the user's place
abbrev own_fate : (gone : ℕ) (ch : Channel) (n : ℕ) → Place → Option Channel
own_fate gone ch n w = elim w [ At i ↦ if has gone i then none else narrowed ch n | Nowhere ↦ narrowed ch n ]

pub fate_there : (us : Users) (gone live c : ℕ) (ch : Channel) (i : ℕ) → find us.ids c ≡ At i
    → fate_of us gone live c ch User ≡ (if has gone i then none else narrowed ch (meet connections ch.marks live))
unfolding fate_of
fate_there us gone live c ch i e = ap (own_fate gone ch (meet connections ch.marks live)) e

fate_nowhere : (us : Users) (gone live c : ℕ) (ch : Channel) → find us.ids c ≡ Nowhere → fate_of us gone live c ch User ≡ narrowed ch (meet connections ch.marks live)
unfolding fate_of
fate_nowhere us gone live c ch e = ap (own_fate gone ch (meet connections ch.marks live)) e

-- ---- users who leave

pub left_crowd : (d : Domain) → Sound d → (gone : ℕ) → Crowd (remove_users d.users gone)
unfolding remove_users
left_crowd d s gone =
    let w = table_sweep s.users_are (λ i u p. Unit {0}) (stays_on gone) (λ i h q c e. tt) in
    record { ids_size = w.ids_size; at_size = w.cells_size; apart = w.apart }

module _ (d : Domain) (s : Sound d) (gone u i : ℕ) where
  pub find_stays : find d.users.ids u ≡ At i → has gone i ≡ false → find (remove_users d.users gone).ids u ≡ At i
  find_stays e q = find_left d s gone u ∙ ap (unless gone) e ∙ rw q

  find_goes : find d.users.ids u ≡ At i → has gone i ≡ true → find (remove_users d.users gone).ids u ≡ Nowhere
  find_goes e q = find_left d s gone u ∙ ap (unless gone) e ∙ rw q

  -- who is found then was found before, and did not leave
  find_was : find (remove_users d.users gone).ids u ≡ At i → (find d.users.ids u ≡ At i) × (has gone i ≡ false)
  find_was f = go (find d.users.ids u) refl (sym (find_left d s gone u) ∙ f)
    where
      go : (w : Place) → find d.users.ids u ≡ w → unless gone w ≡ At i → (find d.users.ids u ≡ At i) × (has gone i ≡ false)
      go (At j) e q = on (has gone j) refl q
        where
          on : (b : Bool) → has gone j ≡ b → (if b then Nowhere else At j) ≡ At i → (find d.users.ids u ≡ At i) × (has gone i ≡ false)
          on true g q = absurd (At≢Nowhere q)
          on false g q = (e ∙ q, rw (At_inj q) at g)
      go Nowhere e q = absurd (At≢Nowhere q)

seat_stays : (d : Domain) (s : Sound d) (gone i : ℕ) → Seated d.users i → has gone i ≡ false → Seated (remove_users d.users gone) i
seat_stays d s gone i h q = found_seated (remove_users d.users gone) _ i (find_stays d s gone (get_or d.users.ids i 0) i (find_there d.users.ids s.users_are.apart i h) q)

lose_free : (gone : ℕ) → lose gone Free ≡ Free
unfolding lose
lose_free gone = refl

module _ (d e : Domain) (s : Sound d) (r : Sound e) (x : Same d e) where
  abbrev us : Users
  us = d.users

  abbrev vs : Users
  vs = e.users

  twins : Twins us vs
  twins = twins_of d e s r x

  pub users_found : (u : ℕ) → found (find us.ids u) ≡ found (find vs.ids u)
  users_found = twins_found us vs twins

  -- those at the places `gone` in the one are those at `gone'` in the other
  module _ (gone gone' live : ℕ) (away : (i j : ℕ) → Pair us vs i j → has gone i ≡ has gone' j) where
    abbrev us' : Users
    us' = remove_users us gone

    abbrev vs' : Users
    vs' = remove_users vs gone'

    left_homes : (u : ℕ) → home_of us' u ≡ home_of vs' u
    left_homes u = go (where_is us vs twins u)
      where
        go : Where us vs u → home_of us' u ≡ home_of vs' u
        go (there {i} {j} f g l) = on (has gone i) refl
          where
            back : {b : Bool} → has gone i ≡ b → has gone' j ≡ b
            back q = sym (away i j (record { id = u; left = f; right = g })) ∙ q

            on : (b : Bool) → has gone i ≡ b → home_of us' u ≡ home_of vs' u
            on true q = home_nowhere us' u (find_goes d s gone u i f q) ∙ sym (home_nowhere vs' u (find_goes e r gone' u j g (back q)))
            on false q =
                home_there us' u i (find_stays d s gone u i f q)
                ∙ ap some (link_left d s gone u i f q ∙ l ∙ sym (link_left e r gone' u j g (back q)))
                ∙ sym (home_there vs' u j (find_stays e r gone' u j g (back q)))
        go (nowhere f g) = home_nowhere us' u (find_left d s gone u ∙ ap (unless gone) f) ∙ sym (home_nowhere vs' u (find_left e r gone' u ∙ ap (unless gone') g))

    twins' : Twins us' vs'
    twins' = record { left = left_crowd d s gone; right = left_crowd e r gone'; homes = left_homes }

    pairs : (i j : ℕ) → Pair us vs i j → has gone i ≡ false → Pair us' vs' i j
    pairs i j p q = record { id = p.id; left = find_stays d s gone p.id i p.left q; right = find_stays e r gone' p.id j p.right (sym (away i j p) ∙ q) }

    pairs_were : (i j : ℕ) → Pair us' vs' i j → Pair us vs i j
    pairs_were i j p = record { id = p.id; left = (find_was d s gone p.id i p.left).0; right = (find_was e r gone' p.id j p.right).0 }

    sets : (m n : ℕ) → Match us vs m n → Match us' vs' (minus seats m gone) (minus seats n gone')
    sets m n y = record {
      left = marks_minus 64 m gone (λ q h g. seat_stays d s gone q (y.left.are q h) g);
      right = marks_minus 64 n gone' (λ q h g. seat_stays e r gone' q (y.right.are q h) g);
      same = λ i j p. (match_minus us vs twins m n y gone gone' away).same i j (pairs_were i j p);
    }

    -- tokens
    left_tokens : (k : ℕ) → token_at us' (sweep_tokens (lose gone) d.tokens) k ≡ token_at vs' (sweep_tokens (lose gone') e.tokens) k
    unfolding token_at
    left_tokens k =
        rw (state_swept d s (lose gone) (lose_free gone) (lose_held us us gone (λ i h q. h)) k, state_swept e r (lose gone') (lose_free gone') (lose_held vs vs gone' (λ i h q. h)) k)
        (twin_says us' vs' twins' (twin_lose us vs us' vs' twins' gone gone' away pairs sets (states d e s r x k)))

    -- channels
    fate_says : (c : ℕ) (a b : Channel) → ChannelTwin us vs a b → says us' (fate us gone live c a) ≡ says vs' (fate vs gone' live c b)
    unfolding fate fate_of private_marks role_of
    fate_says c a b m = by m.kinds refl refl
      where
        fewer : role_of us' (kind a) ≡ role_of vs' (kind b) → says us' (narrowed a (meet connections a.marks live)) ≡ says vs' (narrowed b (meet connections b.marks live))
        fewer f = marked_says us' vs' a b _ _ f (kind_lapses us vs twins m.kinds) (ap (λ (z : ℕ). meet connections z live) m.marks)

        plainly : {k l : Kind} → kind a ≡ k → kind b ≡ l → role_of us' k ≡ role_of vs' l → says us' (narrowed a (meet connections a.marks live)) ≡ says vs' (narrowed b (meet connections b.marks live))
        plainly f g h = fewer (ap (role_of us') f ∙ h ∙ sym (ap (role_of vs') g))

        own_role : role_of us' User ≡ role_of vs' User
        own_role = refl

        own : kind a ≡ User → kind b ≡ User → Where us vs c → says us' (fate_of us gone live c a User) ≡ says vs' (fate_of vs gone' live c b User)
        own f g (there {i} {j} v w l) =
            ap (says us') (fate_there us gone live c a i v) ∙ choose (has gone i) (has gone' j) (away i j (record { id = c; left = v; right = w })) ∙ sym (ap (says vs') (fate_there vs gone' live c b j w))
          where
            choose : (p q : Bool) → p ≡ q → says us' (if p then none else narrowed a (meet connections a.marks live)) ≡ says vs' (if q then none else narrowed b (meet connections b.marks live))
            choose p q o = either (λ y z. says us' y ≡ says vs' z) p q o refl (plainly f g own_role)
        own f g (nowhere v w) = ap (says us') (fate_nowhere us gone live c a v) ∙ plainly f g own_role ∙ sym (ap (says vs') (fate_nowhere vs gone' live c b w))

        by : {k l : Kind} → KindTwin us vs k l → kind a ≡ k → kind b ≡ l → says us' (fate_of us gone live c a k) ≡ says vs' (fate_of vs gone' live c b l)
        by both_static f g = plainly f g refl
        by both_user f g = own f g (where_is us vs twins c)
        by (both_private {g = p} {h = q} {m = u} {n = v} o y) f g = either_by (λ y z. says us' y ≡ says vs' z) (has gone p) (has gone' q) (away p q o) (λ z. refl) (λ z.
            ap some (private_said us' a p u a.marks (m.plain_left ∙ ap (λ (k : Kind). channel_of k a.marks) f) _ _
            ∙ ap₂ (λ (k : Role) (n : ℕ). (k, n)) (kind_says us' vs' twins' (both_private (pairs p q o z) (sets u v y)))
            (ap₂ (meet connections) (ap (λ (k : ℕ). meet connections k live) m.marks) (match_hosts us vs twins (match_with us vs twins _ _ (match_minus us vs twins u v y gone gone' away) o)))
            ∙ sym (private_said vs' b q v b.marks (m.plain_right ∙ ap (λ (k : Kind). channel_of k b.marks) g) _ _)))
        by both_assigned f g = plainly f g refl

    left_channels : (c : ℕ) → channel_at us' (sweep_channels (fate us gone live) d.channels) c ≡ channel_at vs' (sweep_channels (fate vs gone' live) e.channels) c
    left_channels c = channel_swept us' d.channels s.channels_are (fate us gone live) c ∙ go (channels_where d e s r x c) ∙ sym (channel_swept vs' e.channels r.channels_are (fate vs gone' live) c)
      where
        go : ChannelWhere us vs d.channels e.channels c
            → seen (find d.channels.ids c) none (λ j. says us' (fate us gone live c (channel d.channels j))) ≡ seen (find e.channels.ids c) none (λ j. says vs' (fate vs gone' live c (channel e.channels j)))
        go (channel_there {j} {k} f g m) = rw (f, g) (fate_says c _ _ m)
        go (channel_nowhere f g) = rw (f, g)

    -- ---- the records
    ended_same : (c : ℕ) {k l : Kind} → KindTwin us vs k l → ended us gone live c k ≡ ended vs gone' live c l
    unfolding ended
    ended_same c both_static = refl
    ended_same c both_user = refl
    ended_same c (both_private {g} {h} {m} {n} p y) = rw (away g h p, match_hosts us vs twins (match_with us vs twins m n y p))
    ended_same c both_assigned = refl

    returned_same : (c : ℕ) {h k : Holding} → Twin us vs h k → returned us gone c h ≡ returned vs gone' c k
    unfolding returned
    returned_same c both_free = refl
    returned_same c (both_grabbed p) = refl
    returned_same c (both_inhibited y) = refl
    returned_same c (both_giving {g} {h} {r = a} {s = b} p q) =
        rw (away g h p, away a b q, pair_link us vs twins p, pair_name us vs p, twin_status us vs twins p (twin_lose us vs us vs twins gone gone' away (λ i j w z. w) (λ m n y. match_minus us vs twins m n y gone gone' away) (both_giving p q)))
    returned_same c (both_given p) = refl

    farewell_same : (reason : ℕ) (ids : List ℕ) → farewell d gone live reason ids ≡ farewell e gone' live reason ids
    unfolding farewell
    farewell_same reason ids = ap₂ ◌++◌
        (ap (λ (l : List Sent). (if null ids then [] else tell live (DUin reason ids)) ++ l)
        (each_in_order d.channels.ids e.channels.ids (channels_found d e s r x) _ _ (λ c. ended_same c (kinds_read d e s r x c))))
        (each_in_order d.tokens.ids e.tokens.ids (tokens_found d e s r x) _ _ (λ k. returned_same k (states d e s r x k)))

  -- listed users leave
  leave_both : (live reason : ℕ) (ids : List ℕ) → Both Same (leave d live reason ids) (leave e live reason ids)
  unfolding leave
  leave_both live reason ids =
      let gone = match_places us vs twins ids in
      both (farewell_same (places us ids) (places vs ids) live gone.same reason ids) (record {
        limits = x.limits;
        links = refl;
        users = left_homes (places us ids) (places vs ids) live gone.same;
        channels = left_channels (places us ids) (places vs ids) live gone.same;
        tokens = left_tokens (places us ids) (places vs ids) live gone.same;
      })

  leave_alike : {live live' : ℕ} (reason : ℕ) {ids ids' : List ℕ} → live ≡ live' → ids ≡ ids' → Both Same (leave d live reason ids) (leave e live' reason ids')
  leave_alike {live} reason {ids} f g = subst₂ (λ (m : ℕ) (l : List ℕ). Both Same (leave d live reason ids) (leave e m reason l)) f g (leave_both live reason ids)

  -- of listed ids those attached on p
  pub attached_same : (p u : ℕ) → found (attached us p u) ≡ found (attached vs p u)
  unfolding attached found
  attached_same p u = go (where_is us vs twins u)
    where
      on : (i j : ℕ) (b : Bool) → found (if b then At i else Nowhere) ≡ found (if b then At j else Nowhere)
      on i j true = refl
      on i j false = refl

      go : Where us vs u → found (attached us p u) ≡ found (attached vs p u)
      go (there {i} {j} f g l) = rw (f, g, attached, l) (on i j (eqb (link vs j) p))
      go (nowhere f g) = rw (f, g, attached)

  those_on_same : (p : ℕ) (ids : List ℕ) → those_on us p ids ≡ those_on vs p ids
  unfolding those_on
  those_on_same p ids = ap (λ (f : (ℕ → Bool)). keep f ids) (fun_ext (attached_same p))

  pub detach_both : (p reason : ℕ) (ids : List ℕ) → Both Same (detach d p reason ids) (detach e p reason ids)
  unfolding detach
  detach_both p reason ids = either (Both Same) (null (those_on us p (once ids))) (null (those_on vs p (once ids))) (ap null (those_on_same p (once ids))) skip (leave_alike reason x.links (those_on_same p (once ids)))

  pub close_both : (p : ℕ) → Both Same (close d p) (close e p)
  unfolding close
  close_both p = leave_alike _ (ap (λ (m : ℕ). without connections m p) x.links) (those_on_same p (in_order us.ids) ∙ ap (those_on vs p) (in_order_same us.ids vs.ids users_found))
