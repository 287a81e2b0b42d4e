-- Requests about channels, on tables that say the same: the same records, and channels that say the same. Assumes nothing.
use Rattle.std.specs.Prelude.{if◌then◌else◌}
use mathlib.Core.Path.{◌≡◌, refl, sym, ap, ap₂, ◌∙◌, fun_ext}
use mathlib.Core.Bool.{Bool, true, false}
use mathlib.Core.List.{List, [], ◌∷◌}
use mathlib.Core.Option.{Option, none, some}
use Prim.Native.Nat.{ℕ, zero, suc, ◌<◌, ◌≤◌}
use native.Mathlib.Omega.{arith}
use lib.Dec.{eqb, ltb}
use lib.ListN.{get_or}
use borrow.Author.Tests.{eqb-true, eqb-false, leb-false}
use Rattle.cols_spec.specs.Sets.{keep, any, null, each, below, member, once, has, with, without, meet, connections}
use Rattle.cols_spec.specs.Places.{Place, At, Nowhere, find, found, spare, used, load}
use Rattle.cols_spec.proofs.Rows.{find_none}
use Rattle.cols_spec.proofs.Table.{Table, new_place}
use Rattle.cols_spec.proofs.Found.{find_added, load_added, load_put, find_cleared, load_cleared}
use Rattle.codec_table.specs.Named.{Message, CDin, CAin, CEin}
use Rattle.out_records.specs.Records.{to, tell}
use Rattle.domain.specs.declared.channel.Kind.{Kind}
use Rattle.domain.specs.declared.channel.Kind.TheVariants.{Private}
use Rattle.domain.specs.declared.channel.Channel.{Channel}
use Rattle.domain.specs.Cells.{no_channel, kind, channel_of, with_marks}
use Rattle.domain.specs.Tables.{Users, Channels, Domain, channel, add_channel, set_channel, end_channel, at_limit, seen}
use Rattle.domain.specs.Effects.{Effect, ignored}
use Rattle.domain.specs.Channels.{may, join_at, join_new, join, joined, left, leave_channels, convene, owned, manages, disband, own, attached_of, admitted_of, admit, private_marks, expel}
use Rattle.domain.specs.Events.{channels_full}
use Rattle.domain_laws.specs.Same.{Role, role_of, channel_at, Same}
use Rattle.domain.proofs.invariant.Sound.{Sound, limits_le}
use Rattle.domain.proofs.invariant.Seats.{kind_of, marks_of}
use Rattle.domain_laws.proofs.same.Twins.{Twins, Pair, Match, Where, there, nowhere, where_is, twins_of, pair_eqb, match_none, match_with, match_minus, match_union, match_hosts, match_places}
use Rattle.domain_laws.proofs.same.Holdings.{either_by, either}
use Rattle.domain_laws.proofs.same.Requests.{Both, skip, both, from_both}
use Rattle.domain_laws.proofs.same.Kinds.{KindTwin, both_static, both_user, both_private, both_assigned, kind_says, kind_lapses, said_of, says, ChannelTwin, ChannelWhere, there as channel_there, nowhere as channel_nowhere, channels_where, channels_full_same}
use Rattle.domain_laws.proofs.same.Leaving.{marked_says, channel_swept, private_said, users_found, attached_same}

-- ---- one channel of a table changes

-- what is said of an id, by whether it is found and what is read of it
abbrev told : Users → Bool → Channel → Option (Role × ℕ)
told us b ch = if b then some (said_of us ch) else none

channel_told : (us : Users) (cs : Channels) (c : ℕ) → channel_at us cs c ≡ told us (found (find cs.ids c)) (load cs.cells (find cs.ids c) no_channel)
unfolding channel_at channel load found
channel_told us cs c = go (find cs.ids c)
  where
    go : (w : Place) → seen w none (λ j. some (said_of us (channel cs j))) ≡ told us (found w) (load cs.cells w no_channel)
    go (At j) = refl
    go Nowhere = refl

module _ (us : Users) (cs : Channels) {lim : ℕ} {P : ℕ → ℕ → Channel → Type 0} (t : Table 128 lim no_channel P cs.ids cs.cells) (y : ℕ) where
  module _ (c j : ℕ) (here : find cs.ids c ≡ At j) where
    channel_set : (ch : Channel) → channel_at us (set_channel cs j ch) y ≡ (if eqb y c then some (said_of us ch) else channel_at us cs y)
    unfolding set_channel found
    channel_set ch = channel_told us (set_channel cs j ch) y ∙ rw (load_put t c j here ch y, channel_told us cs y) (go (eqb y c) refl)
      where
        go : (b : Bool) → eqb y c ≡ b → told us (found (find cs.ids y)) (if b then ch else load cs.cells (find cs.ids y) no_channel)
            ≡ (if b then some (said_of us ch) else told us (found (find cs.ids y)) (load cs.cells (find cs.ids y) no_channel))
        go true e = rw (ap (find cs.ids) (eqb-true y c e) ∙ here)
        go false e = refl

    channel_ended : channel_at us (end_channel cs j) y ≡ (if eqb y c then none else channel_at us cs y)
    unfolding end_channel found
    channel_ended = channel_told us (end_channel cs j) y ∙ rw (load_cleared t c j here y, find_cleared t c j here y, channel_told us cs y) (go (eqb y c))
      where
        go : (b : Bool) → told us (found (if b then Nowhere else find cs.ids y)) (if b then no_channel else load cs.cells (find cs.ids y) no_channel)
            ≡ (if b then none else told us (found (find cs.ids y)) (load cs.cells (find cs.ids y) no_channel))
        go true = refl
        go false = refl

  module _ (few : used cs.ids < lim) (fits : lim ≤ 128) (c : ℕ) (ch : Channel) (cz : 0 < c) (away : (i : ℕ) → get_or cs.ids i 0 ≡ c → ⊥) where
    pub channel_added : channel_at us (add_channel cs c ch) y ≡ (if eqb y c then some (said_of us ch) else channel_at us cs y)
    unfolding add_channel found
    channel_added = channel_told us (add_channel cs c ch) y ∙ rw (load_added t few fits c ch cz away y, find_added t few fits c ch cz away y, channel_told us cs y) (go (eqb y c))
      where
        go : (b : Bool) → told us (found (if b then spare cs.ids else find cs.ids y)) (if b then ch else load cs.cells (find cs.ids y) no_channel)
            ≡ (if b then some (said_of us ch) else told us (found (find cs.ids y)) (load cs.cells (find cs.ids y) no_channel))
        go true = rw (new_place t (λ i x c. Unit {0}) few fits c ch cz).1
        go false = refl

-- ---- channels that say the same

abbrev pub ChannelsSame : (us vs : Users) → Channels → Channels → Type 0
ChannelsSame us vs cs ds = (c : ℕ) → channel_at us cs c ≡ channel_at vs ds c

-- below the limit
pub channels_few : (d : Domain) → channels_full d ≡ false → used d.channels.ids < d.limits.channels
unfolding channels_full at_limit
channels_few d f = leb-false _ _ f

made_said : (us : Users) (k : Kind) (m : ℕ) → said_of us (channel_of k m) ≡ (role_of us k, m)
made_said us k m = ap₂ (λ (z : Kind) (n : ℕ). (role_of us z, n)) (kind_of k m) (marks_of k m)

module _ (d e : Domain) (s : Sound d) (r : Sound e) (x : Same d e) where
  abbrev us : Users
  us = d.users

  abbrev vs : Users
  vs = e.users

  twins : Twins us vs
  twins = twins_of d e s r x

  abbrev After : Channels → Channels → Type 0
  After = ChannelsSame us vs

  choice : (a b : Option (Role × ℕ)) (y c : ℕ) → a ≡ b → (if eqb y c then a else channel_at us d.channels y) ≡ (if eqb y c then b else channel_at vs e.channels y)
  choice a b y c f = ap₂ (λ (p q : Option (Role × ℕ)). if eqb y c then p else q) f (x.channels y)

  set_same : (c : ℕ) {j k : ℕ} → find d.channels.ids c ≡ At j → find e.channels.ids c ≡ At k → (a b : Channel) → said_of us a ≡ said_of vs b
      → After (set_channel d.channels j a) (set_channel e.channels k b)
  set_same c {j} {k} f g a b h y = channel_set us d.channels s.channels_are y c j f a ∙ choice _ _ y c (ap some h) ∙ sym (channel_set vs e.channels r.channels_are y c k g b)

  end_same : (c : ℕ) {j k : ℕ} → find d.channels.ids c ≡ At j → find e.channels.ids c ≡ At k → After (end_channel d.channels j) (end_channel e.channels k)
  end_same c {j} {k} f g y = channel_ended us d.channels s.channels_are y c j f ∙ choice _ _ y c refl ∙ sym (channel_ended vs e.channels r.channels_are y c k g)

  add_same : (c : ℕ) → 0 < c → ((i : ℕ) → get_or d.channels.ids i 0 ≡ c → ⊥) → ((i : ℕ) → get_or e.channels.ids i 0 ≡ c → ⊥) → channels_full d ≡ false → (a b : Channel)
      → said_of us a ≡ said_of vs b → After (add_channel d.channels c a) (add_channel e.channels c b)
  add_same c cz f g h a b q y =
      channel_added us d.channels s.channels_are y (channels_few d h) (limits_le d.limits s.limits_ok).0 c a cz f ∙ choice _ _ y c (ap some q)
      ∙ sym (channel_added vs e.channels r.channels_are y (channels_few e (sym (channels_full_same d e s r x) ∙ h)) (limits_le e.limits r.limits_ok).0 c b cz g)

  made_same : {k l : Kind} → KindTwin us vs k l → (m : ℕ) → said_of us (channel_of k m) ≡ said_of vs (channel_of l m)
  made_same {k} {l} w m = made_said us k m ∙ ap (λ (z : Role). (z, m)) (kind_says us vs twins w) ∙ sym (made_said vs l m)

  -- ---- CJrq

  may_same : (c u i j : ℕ) → Pair us vs i j → {k l : Kind} → KindTwin us vs k l → may k c u i ≡ may l c u j
  unfolding may
  may_same c u i j p both_static = refl
  may_same c u i j p both_user = refl
  may_same c u i j p (both_private q y) = rw (pair_eqb us vs q p, y.same i j p)
  may_same c u i j p both_assigned = refl

  join_at_both : (p u c j k : ℕ) → find d.channels.ids c ≡ At j → find e.channels.ids c ≡ At k → ChannelTwin us vs (channel d.channels j) (channel e.channels k) → (n : ℕ)
      → Both After (join_at d.channels p u c j n) (join_at e.channels p u c k n)
  unfolding join_at kind with_marks
  join_at_both p u c j k f g m zero = both refl (set_same c f g _ _ (ap₂ (λ (z : Role) (n : ℕ). (z, with connections n p)) (kind_says us vs twins m.kinds) m.marks))
  join_at_both p u c j k f g m (suc n) = both refl x.channels

  module _ (new : ℕ) (lo : 1001 ≤ new) (away : (i : ℕ) → get_or d.channels.ids i 0 ≡ new → ⊥) (away' : (i : ℕ) → get_or e.channels.ids i 0 ≡ new → ⊥) where
    join_new_both : (p u c : ℕ) → find d.channels.ids c ≡ Nowhere → find e.channels.ids c ≡ Nowhere
        → Both After (join_new new (channels_full d) d.channels p u c) (join_new new (channels_full e) e.channels p u c)
    unfolding join_new
    join_new_both p u c f g = either (Both After) (ltb 1000 c) _ refl (both refl x.channels) (either_by (Both After) (channels_full d) (channels_full e) (channels_full_same d e s r x)
        (λ q. both refl x.channels)
        (λ q. either_by (Both After) (eqb c 0) (eqb c 0) refl
        (λ z. both refl (add_same new (omega arith) away away' q _ _ (made_same both_assigned _)))
        (λ z. let n : c ≡ 0 → ⊥ = eqb-false c 0 z in
        let pos : 0 < c = omega arith in
        both refl (add_same c pos (find_none d.channels.ids c f pos) (find_none e.channels.ids c g pos) q _ _ (made_same both_static _)))))

    pub join_both : (p u c : ℕ) → Both After (join new (channels_full d) us d.channels p u c) (join new (channels_full e) vs e.channels p u c)
    unfolding join
    join_both p u c = from_both After us vs twins p u _ _ (λ i j m n l o. go i j (record { id = u; left = m; right = n }) (channels_where d e s r x c))
      where
        asked : Bool → Users → Channels → ℕ → Place → Effect Channels
        asked full ws cs i w = elim w [ At j ↦ join_at cs p u c j (may (kind (channel cs j)) c u i) | Nowhere ↦ join_new new full cs p u c ]

        go : (i j : ℕ) → Pair us vs i j → ChannelWhere us vs d.channels e.channels c
            → Both After (asked (channels_full d) us d.channels i (find d.channels.ids c)) (asked (channels_full e) vs e.channels j (find e.channels.ids c))
        go i j q (channel_there {j = a} {k = b} f g m) =
            rw (ap (asked (channels_full d) us d.channels i) f, ap (asked (channels_full e) vs e.channels j) g, may_same c u i j q m.kinds) (join_at_both p u c a b f g m _)
        go i j q (channel_nowhere f g) = rw (ap (asked (channels_full d) us d.channels i) f, ap (asked (channels_full e) vs e.channels j) g) (join_new_both p u c f g)

    -- CCrq
    pub convene_both : (p u : ℕ) → Both After (convene new (channels_full d) us d.channels p u) (convene new (channels_full e) vs e.channels p u)
    unfolding convene
    convene_both p u = from_both After us vs twins p u _ _ (λ i j m n l o. either_by (Both After) (channels_full d) (channels_full e) (channels_full_same d e s r x)
        (λ q. both refl x.channels)
        (λ q. both refl (add_same new (omega arith) away away' q _ _ (made_same (both_private (record { id = u; left = m; right = n }) (match_none us vs)) _))))

  -- ---- CLrq

  joined_same : (p c : ℕ) → joined d.channels p c ≡ joined e.channels p c
  unfolding joined load channel
  joined_same p c = go (channels_where d e s r x c)
    where
      go : ChannelWhere us vs d.channels e.channels c → has (load d.channels.cells (find d.channels.ids c) no_channel).marks p ≡ has (load e.channels.cells (find e.channels.ids c) no_channel).marks p
      go (channel_there f g m) = rw (f, g) (ap (λ (z : ℕ). has z p) m.marks)
      go (channel_nowhere f g) = rw (f, g)

  left_says : (p : ℕ) (ids : List ℕ) (c : ℕ) (a b : Channel) → ChannelTwin us vs a b → says us (left p ids c a) ≡ says vs (left p ids c b)
  unfolding left
  left_says p ids c a b m = either (λ y z. says us y ≡ says vs z) (member c ids) (member c ids) refl
      (marked_says us vs a b _ _ (kind_says us vs twins m.kinds) (kind_lapses us vs twins m.kinds) (ap (λ (z : ℕ). without connections z p) m.marks))
      (ap some (ap₂ (λ (z : Role) (n : ℕ). (z, n)) (kind_says us vs twins m.kinds) m.marks))

  pub leave_channels_both : (p : ℕ) (ids : List ℕ) → Both After (leave_channels d.channels p ids) (leave_channels e.channels p ids)
  unfolding leave_channels
  leave_channels_both p ids = either (Both After) (any (joined d.channels p) ids) (any (joined e.channels p) ids) (ap (λ (f : (ℕ → Bool)). any f ids) (fun_ext (joined_same p)))
      (both refl (λ c. channel_swept us d.channels s.channels_are (left p ids) c ∙ go c (channels_where d e s r x c) ∙ sym (channel_swept vs e.channels r.channels_are (left p ids) c))) skip
    where
      go : (c : ℕ) → ChannelWhere us vs d.channels e.channels c
          → seen (find d.channels.ids c) none (λ j. says us (left p ids c (channel d.channels j))) ≡ seen (find e.channels.ids c) none (λ j. says vs (left p ids c (channel e.channels j)))
      go c (channel_there f g m) = rw (f, g) (left_says p ids c _ _ m)
      go c (channel_nowhere f g) = rw (f, g)

  -- ---- private channels, by their managers

  -- a private channel with its manager and the admitted, in both
  record Club (c j k g h m n : ℕ) : Type 0 where
    left : find d.channels.ids c ≡ At j
    right : find e.channels.ids c ≡ At k
    twin : ChannelTwin us vs (channel d.channels j) (channel e.channels k)
    stored : channel d.channels j ≡ channel_of (Private g m) (channel d.channels j).marks
    stored' : channel e.channels k ≡ channel_of (Private h n) (channel e.channels k).marks
    manager : Pair us vs g h
    admitted : Match us vs m n

  manages_both : (p u c : ℕ) (f f' : ℕ → ℕ → ℕ → Effect Channels) → ((j k g h m n : ℕ) → Club c j k g h m n → Both After (f j g m) (f' k h n))
      → Both After (manages us d.channels p u c f) (manages vs e.channels p u c f')
  unfolding manages owned
  manages_both p u c f f' law = from_both After us vs twins p u _ _ (λ i j m n l o. go i j (record { id = u; left = m; right = n }) (channels_where d e s r x c))
    where
      asked : Channels → (ℕ → ℕ → ℕ → Effect Channels) → ℕ → Place → Effect Channels
      asked cs f i w = elim w [ At j ↦ owned (kind (channel cs j)) i (f j) | Nowhere ↦ ignored ]

      its : (i j a b : ℕ) → Pair us vs i j → find d.channels.ids c ≡ At a → find e.channels.ids c ≡ At b → ChannelTwin us vs (channel d.channels a) (channel e.channels b)
          → {k l : Kind} → KindTwin us vs k l → kind (channel d.channels a) ≡ k → kind (channel e.channels b) ≡ l → Both After (owned k i (f a)) (owned l j (f' b))
      its i j a b q v w m both_static y z = skip
      its i j a b q v w m both_user y z = skip
      its i j a b q v w m (both_private {g} {h} {m = m'} {n} p t) y z = either (Both After) (eqb g i) (eqb h j) (pair_eqb us vs p q) (law a b g h m' n (record {
        left = v;
        right = w;
        twin = m;
        stored = m.plain_left ∙ ap (λ (k : Kind). channel_of k (channel d.channels a).marks) y;
        stored' = m.plain_right ∙ ap (λ (k : Kind). channel_of k (channel e.channels b).marks) z;
        manager = p;
        admitted = t;
      })) skip
      its i j a b q v w m both_assigned y z = skip

      go : (i j : ℕ) → Pair us vs i j → ChannelWhere us vs d.channels e.channels c → Both After (asked d.channels f i (find d.channels.ids c)) (asked e.channels f' j (find e.channels.ids c))
      go i j q (channel_there {j = a} {k = b} v w m) = rw (ap (asked d.channels f i) v, ap (asked e.channels f' j) w) (its i j a b q v w m m.kinds refl refl)
      go i j q (channel_nowhere v w) = rw (ap (asked d.channels f i) v, ap (asked e.channels f' j) w) skip

  -- CDrq
  pub disband_both : (p u c : ℕ) → Both After (disband us d.channels p u c) (disband vs e.channels p u c)
  unfolding disband
  disband_both p u c = manages_both p u c _ _ (λ j k g h m n w.
      both (ap (λ (z : ℕ). tell z (CDin c)) (match_hosts us vs twins (match_with us vs twins m n w.admitted w.manager))) (end_same c w.left w.right))

  -- each connection's own ids
  own_same : (ids : List ℕ) (say : List ℕ → Message) → own us ids say ≡ own vs ids say
  unfolding own
  own_same ids say = ap (λ (f : (ℕ → ℕ → Bool)). each (λ q. let mine = keep (f q) ids in if null mine then [] else to q (say mine) ∷ []) (below connections))
      (fun_ext (λ q. fun_ext (λ u. attached_same d e s r x q u)))

  -- CArq
  attached_of_same : (ids : List ℕ) → attached_of us ids ≡ attached_of vs ids
  unfolding attached_of
  attached_of_same ids = ap (λ (f : (ℕ → Bool)). keep f (once ids)) (fun_ext (users_found d e s r x))

  pub admit_both : (p u c : ℕ) (ids : List ℕ) → Both After (admit us d.channels p u c ids) (admit vs e.channels p u c ids)
  unfolding admit
  admit_both p u c ids = manages_both p u c _ _ (λ j k g h m n w. rw (attached_of_same ids) (either (Both After) (null (attached_of vs ids)) _ refl skip
      (both (own_same (attached_of vs ids) (CAin u c)) (set_same c w.left w.right _ _
      (private_said us _ g m _ w.stored _ _
      ∙ ap₂ (λ (z : Role) (q : ℕ). (z, q)) (kind_says us vs twins (both_private w.manager (match_union us vs twins m n w.admitted (match_places us vs twins (attached_of vs ids))))) w.twin.marks
      ∙ sym (private_said vs _ h n _ w.stored' _ _))))))

  -- CErq
  admitted_of_same : (m n : ℕ) → Match us vs m n → (ids : List ℕ) → admitted_of us m ids ≡ admitted_of vs n ids
  unfolding admitted_of
  admitted_of_same m n y ids = ap (λ (f : (ℕ → Bool)). keep f (once ids)) (fun_ext (λ v. go v (where_is us vs twins v)))
    where
      is : ℕ → Place → Bool
      is m w = elim w [ At i ↦ has m i | Nowhere ↦ false ]

      go : (v : ℕ) → Where us vs v → is m (find us.ids v) ≡ is n (find vs.ids v)
      go v (there {i} {j} f g l) = ap (is m) f ∙ y.same i j (record { id = v; left = f; right = g }) ∙ sym (ap (is n) g)
      go v (nowhere f g) = ap (is m) f ∙ sym (ap (is n) g)

  pub expel_both : (p u c : ℕ) (ids : List ℕ) → Both After (expel us d.channels p u c ids) (expel vs e.channels p u c ids)
  unfolding expel private_marks
  expel_both p u c ids = manages_both p u c _ _ (λ j k g h m n w. rw (admitted_of_same m n w.admitted ids) (either (Both After) (null (admitted_of vs n ids)) _ refl skip
      (both (own_same (admitted_of vs n ids) (CEin c)) (set_same c w.left w.right _ _
      (let less = match_minus us vs twins m n w.admitted _ _ (match_places us vs twins (admitted_of vs n ids)).same in
      private_said us _ g m _ w.stored _ _
      ∙ ap₂ (λ (z : Role) (q : ℕ). (z, q)) (kind_says us vs twins (both_private w.manager less)) (ap₂ (meet connections) w.twin.marks (match_hosts us vs twins (match_with us vs twins _ _ less w.manager)))
      ∙ sym (private_said vs _ h n _ w.stored' _ _))))))
