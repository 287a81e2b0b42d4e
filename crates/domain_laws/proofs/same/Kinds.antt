-- Channels that say the same: their kinds name the same users, and the same connections are joined. Assumes nothing.
use mathlib.Core.Path.{◌≡◌, refl, sym, ap, ◌∙◌}
use mathlib.Core.List.{List, []}
use mathlib.Core.Option.{Option, none, some}
use Prim.Native.Nat.{ℕ, ◌≤◌}
use native.Mathlib.Omega.{arith}
use lib.ListN.{get_or}
use Rattle.cols_spec.specs.Places.{Place, At, Nowhere, find, found, load}
use Rattle.cols_spec.proofs.Bools.{some_is, none≢some}
use Rattle.cols_spec.proofs.Marks.{Marks}
use Rattle.cols_spec.proofs.Rows.{find_holds}
use Rattle.domain.specs.declared.channel.Kind.{Kind}
use Rattle.domain.specs.declared.channel.Kind.TheVariants.{Static, User, Private, Assigned}
use Rattle.domain.specs.declared.channel.Channel.{Channel}
use Rattle.domain.specs.Cells.{no_channel, kind, channel_of}
use Rattle.domain.specs.Tables.{Users, Channels, Domain, name, channel, lapses, at_limit, grant, seen}
use Rattle.domain.specs.Events.{channels_full}
use Rattle.domain_laws.specs.Same.{Role, static, user_id, assigned, private_of, role_of, channel_at, Same}
use Rattle.domain.proofs.invariant.Sound.{Seated, Sort, ChannelRow, Sound}
use Rattle.domain_laws.proofs.same.Twins.{Twins, Pair, Match, twins_of, pair_name, match_ids, match_by, pair_by}
use Rattle.domain_laws.proofs.same.Requests.{used_same, unused_same}

-- kinds that name the same users
pub data KindTwin (us vs : Users) : Kind → Kind → Type 0 where
  both_static : KindTwin us vs Static Static
  both_user : KindTwin us vs User User
  both_private : {g h m n : ℕ} → Pair us vs g h → Match us vs m n → KindTwin us vs (Private g m) (Private h n)
  both_assigned : KindTwin us vs Assigned Assigned

-- the users that a kind names are seated
abbrev pub Named : Users → Kind → Type 0
Named us Static = Unit {0}
Named us User = Unit {0}
Named us (Private g adm) = Seated us g × Marks 64 adm (Seated us)
Named us Assigned = Unit {0}

sort_named : (us : Users) (c : ℕ) (k : Kind) (m : ℕ) → Sort us c k m → Named us k
sort_named us c Static m x = tt
sort_named us c User m x = tt
sort_named us c (Private g adm) m x = (x.2.manager, x.2.admitted)
sort_named us c Assigned m x = tt

sort_high : (us : Users) (c : ℕ) (k : Kind) (m : ℕ) → Sort us c k m → c ≤ 65535
sort_high us c Static m x = omega (arith, x.1)
sort_high us c User m x = x.1
sort_high us c (Private g adm) m x = x.1
sort_high us c Assigned m x = x.1

pub row_named : {live : ℕ} {us : Users} {j c : ℕ} {ch : Channel} → ChannelRow live us j c ch → Named us (kind ch)
row_named {us} {c} {ch} r = sort_named us c (kind ch) ch.marks r.sort

pub row_high : {live : ℕ} {us : Users} {j c : ℕ} {ch : Channel} → ChannelRow live us j c ch → c ≤ 65535
row_high {us} {c} {ch} r = sort_high us c (kind ch) ch.marks r.sort

-- the parts of what is said of a kind
tag : Role → ℕ
tag static = 0
tag user_id = 1
tag assigned = 2
tag (private_of g is) = 3

manager : Role → ℕ
manager static = 0
manager user_id = 0
manager assigned = 0
manager (private_of g is) = g

guests : Role → List ℕ
guests static = []
guests user_id = []
guests assigned = []
guests (private_of g is) = is

module _ (us vs : Users) (t : Twins us vs) where
  -- kinds of which the same is said by ids, and the reverse
  kind_twin_of : (k l : Kind) → Named us k → Named vs l → role_of us k ≡ role_of vs l → KindTwin us vs k l
  unfolding role_of tag manager guests
  kind_twin_of Static Static x y e = both_static
  kind_twin_of User User x y e = both_user
  kind_twin_of (Private g m) (Private h n) x y e =
      both_private (pair_by us vs t g h x.0 y.0 (ap manager e)) (match_by us vs t x.1 y.1 (ap guests e))
  kind_twin_of Assigned Assigned x y e = both_assigned
  kind_twin_of Static User x y e = absurd (omega (arith, ap tag e))
  kind_twin_of Static (Private h n) x y e = absurd (omega (arith, ap tag e))
  kind_twin_of Static Assigned x y e = absurd (omega (arith, ap tag e))
  kind_twin_of User Static x y e = absurd (omega (arith, ap tag e))
  kind_twin_of User (Private h n) x y e = absurd (omega (arith, ap tag e))
  kind_twin_of User Assigned x y e = absurd (omega (arith, ap tag e))
  kind_twin_of (Private g m) Static x y e = absurd (omega (arith, ap tag e))
  kind_twin_of (Private g m) User x y e = absurd (omega (arith, ap tag e))
  kind_twin_of (Private g m) Assigned x y e = absurd (omega (arith, ap tag e))
  kind_twin_of Assigned Static x y e = absurd (omega (arith, ap tag e))
  kind_twin_of Assigned User x y e = absurd (omega (arith, ap tag e))
  kind_twin_of Assigned (Private h n) x y e = absurd (omega (arith, ap tag e))

  pub kind_says : {k l : Kind} → KindTwin us vs k l → role_of us k ≡ role_of vs l
  unfolding role_of
  kind_says both_static = refl
  kind_says both_user = refl
  kind_says (both_private {h} {m} {n} p x) = rw (pair_name us vs p) (ap (private_of (name vs h)) (match_ids us vs t m n x))
  kind_says both_assigned = refl

  pub kind_lapses : {k l : Kind} → KindTwin us vs k l → lapses k ≡ lapses l
  unfolding lapses
  kind_lapses both_static = refl
  kind_lapses both_user = refl
  kind_lapses (both_private p x) = refl
  kind_lapses both_assigned = refl

-- ---- what is said of a channel

-- by ids: what a channel is, and the connections joined
abbrev pub said_of : Users → Channel → Role × ℕ
said_of us ch = (role_of us (kind ch), ch.marks)

abbrev pub says : Users → Option Channel → Option (Role × ℕ)
says us none = none
says us (some ch) = some (said_of us ch)

-- the numbers of a channel are those of its kind
abbrev Plain : Channel → Type 0
Plain ch = ch ≡ channel_of (kind ch) ch.marks

-- channels of which the same is said
pub record ChannelTwin (us vs : Users) (a b : Channel) : Type 0 where
  pub kinds : KindTwin us vs (kind a) (kind b)
  pub marks : a.marks ≡ b.marks
  pub plain_left : Plain a
  pub plain_right : Plain b

-- channel c has a place in both, and the same is said of it, or it has none in either
pub data ChannelWhere (us vs : Users) (cs ds : Channels) (c : ℕ) : Type 0 where
  there : {j k : ℕ} → find cs.ids c ≡ At j → find ds.ids c ≡ At k → ChannelTwin us vs (channel cs j) (channel ds k) → ChannelWhere us vs cs ds c
  nowhere : find cs.ids c ≡ Nowhere → find ds.ids c ≡ Nowhere → ChannelWhere us vs cs ds c

-- ---- the channels of domains that say the same

module _ (d e : Domain) (s : Sound d) (r : Sound e) (x : Same d e) where
  pub channels_where : (c : ℕ) → ChannelWhere d.users e.users d.channels e.channels c
  unfolding channel_at channel
  channels_where c = go (find d.channels.ids c) refl (find e.channels.ids c) refl
    where
      view : Users → Channels → Place → Option (Role × ℕ)
      view us cs w = seen w none (λ j. some (said_of us (channel cs j)))

      row : (d : Domain) → Sound d → (j : ℕ) → find d.channels.ids c ≡ At j → ChannelRow d.links d.users j (get_or d.channels.ids j 0) (channel d.channels j)
      row d s j e = let w = find_holds d.channels.ids c j e in s.channels_are.rows j (rw w.0 w.2)

      meet_at : (j k : ℕ) → find d.channels.ids c ≡ At j → find e.channels.ids c ≡ At k → said_of e.users (channel e.channels k) ≡ said_of d.users (channel d.channels j)
          → ChannelTwin d.users e.users (channel d.channels j) (channel e.channels k)
      meet_at j k f g h = record {
        kinds = kind_twin_of d.users e.users (twins_of d e s r x) (kind (channel d.channels j)) (kind (channel e.channels k)) (row_named (row d s j f)) (row_named (row e r k g)) (sym (ap (λ (z : Role × ℕ). z.0) h));
        marks = sym (ap (λ (z : Role × ℕ). z.1) h);
        plain_left = (row d s j f).plain;
        plain_right = (row e r k g).plain;
      }

      go : (v : Place) → find d.channels.ids c ≡ v → (w : Place) → find e.channels.ids c ≡ w → ChannelWhere d.users e.users d.channels e.channels c
      go (At j) f (At k) g = there f g (meet_at j k f g (some_is (ap (view d.users d.channels) (sym f) ∙ x.channels c ∙ ap (view e.users e.channels) g)))
      go (At j) f Nowhere g = absurd (none≢some (sym (ap (view d.users d.channels) (sym f) ∙ x.channels c ∙ ap (view e.users e.channels) g)))
      go Nowhere f (At k) g = absurd (none≢some (ap (view d.users d.channels) (sym f) ∙ x.channels c ∙ ap (view e.users e.channels) g))
      go Nowhere f Nowhere g = nowhere f g

  pub channels_found : (c : ℕ) → found (find d.channels.ids c) ≡ found (find e.channels.ids c)
  unfolding found
  channels_found c = go (channels_where c)
    where
      go : ChannelWhere d.users e.users d.channels e.channels c → found (find d.channels.ids c) ≡ found (find e.channels.ids c)
      go (there f g h) = rw (f, g)
      go (nowhere f g) = rw (f, g)

  -- the kind that is read of an id, in use or not
  pub kinds_read : (c : ℕ) → KindTwin d.users e.users (kind (load d.channels.cells (find d.channels.ids c) no_channel)) (kind (load e.channels.cells (find e.channels.ids c) no_channel))
  unfolding load kind channel
  kinds_read c = go (channels_where c)
    where
      go : ChannelWhere d.users e.users d.channels e.channels c
          → KindTwin d.users e.users (kind (load d.channels.cells (find d.channels.ids c) no_channel)) (kind (load e.channels.cells (find e.channels.ids c) no_channel))
      go (there f g h) = rw (f, g) h.kinds
      go (nowhere f g) = rw (f, g) both_static

  -- the limit is reached in both or in neither, and the lowest free id is the same
  pub channels_full_same : channels_full d ≡ channels_full e
  unfolding channels_full at_limit
  channels_full_same = rw (
    x.limits,
    used_same d.channels.ids e.channels.ids channels_found s.channels_are.apart r.channels_are.apart 65536
        (λ i h. omega (arith, row_high (s.channels_are.rows i h))) (λ i h. omega (arith, row_high (r.channels_are.rows i h))) (omega arith),
  )

  pub grant_same : grant d.channels ≡ grant e.channels
  unfolding grant
  grant_same = unused_same d.channels.ids e.channels.ids channels_found 128 1001
