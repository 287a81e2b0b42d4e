-- The tables' rules place by place: the same as `Good`, in the form in which they are kept. Assumes nothing.
use mathlib.Core.Path.{◌≡◌, refl}
use mathlib.Core.Bool.{true, false, not, ◌&&◌, So, false≢true}
use Prim.Native.Nat.{ℕ, ◌≤◌, ◌<◌, ◌^◌}
use native.Mathlib.Omega.{arith}
use lib.Dec.{leb}
use lib.ListN.{get_or}
use borrow.Author.Tests.{leb-true, le-leb, not-true}
use Rattle.cols_spec.specs.Places.{find, found}
use Rattle.cols_spec.specs.Sets.{has, with, seats}
use Rattle.cols_spec.proofs.Bools.{and_parts, and_both}
use Rattle.cols_spec.proofs.Marks.{Marks}
use Rattle.cols_spec.proofs.Rows.{not_there}
use Rattle.cols_spec.proofs.Table.{Table}
use Rattle.domain.specs.declared.Limits.{Limits}
use Rattle.domain.specs.declared.channel.Kind.{Kind}
use Rattle.domain.specs.declared.channel.Kind.TheVariants.{Static, User, Private, Assigned}
use Rattle.domain.specs.declared.channel.Channel.{Channel}
use Rattle.domain.specs.declared.token.Holding.{Holding}
use Rattle.domain.specs.declared.token.Holding.TheVariants.{Free, Grabbed, Inhibited, Giving, Given}
use Rattle.domain.specs.declared.token.Token.{Token}
use Rattle.domain.specs.Cells.{no_channel, no_token, kind, channel_of, hold, token_of}
use Rattle.domain.specs.Tables.{Users, Channels, Domain, is_free, between, in_range, FreeId}
use Rattle.domain.specs.Effects.{Effect, ignored, done}

-- a user is at this place
abbrev pub Seated : Users → ℕ → Type 0
Seated us i = 0 < get_or us.ids i 0

-- a user of the mask is on connection q
pub record Host (us : Users) (who q : ℕ) : Type 0 where
  pub place : ℕ
  pub in_mask : has who place ≡ true
  pub there : get_or us.at place 0 ≡ q

-- ---- users

-- a channel of kind User has the id u
pub record Owned (cs : Channels) (u : ℕ) : Type 0 where
  pub spot : ℕ
  pub id_is : get_or cs.ids spot 0 ≡ u
  pub kind_is : kind (get_or cs.cells spot no_channel) ≡ User

pub record UserRow (live : ℕ) (cs : Channels) (i u p : ℕ) : Type 0 where
  pub low : 1001 ≤ u
  pub high : u ≤ 65535
  pub linked : has live p ≡ true
  pub owned : Owned cs u

-- ---- channels

-- user id channel c: joined by its user's connection only
pub record Home (us : Users) (c m : ℕ) : Type 0 where
  pub who : ℕ
  pub named : get_or us.ids who 0 ≡ c
  pub marks : Marks 16 m (λ q. get_or us.at who 0 ≡ q)

pub record Club (us : Users) (g adm m : ℕ) : Type 0 where
  pub manager : Seated us g
  pub admitted : Marks 64 adm (Seated us)
  pub marks : Marks 16 m (Host us (with seats adm g))

abbrev pub Sort : Users → ℕ → Kind → ℕ → Type 0
Sort us c Static m = (1 ≤ c) × (c ≤ 1000) × (0 < m)
Sort us c User m = (1001 ≤ c) × (c ≤ 65535) × Home us c m
Sort us c (Private g adm) m = (1001 ≤ c) × (c ≤ 65535) × Club us g adm m
Sort us c Assigned m = (1001 ≤ c) × (c ≤ 65535) × (0 < m)

pub record ChannelRow (live : ℕ) (us : Users) (j c : ℕ) (ch : Channel) : Type 0 where
  pub plain : ch ≡ channel_of (kind ch) ch.marks
  pub joins : Marks 16 ch.marks (λ q. has live q ≡ true)
  pub sort : Sort us c (kind ch) ch.marks

-- ---- tokens

abbrev pub Held : Users → Holding → Type 0
Held us Free = Unit {0}
Held us (Grabbed g) = Seated us g
Held us (Inhibited is) = (0 < is) × Marks 64 is (Seated us)
Held us (Giving g r) = Seated us g × Seated us r
Held us (Given r) = Seated us r

pub free_is : (h : Holding) → is_free h ≡ true → h ≡ Free
unfolding is_free
free_is Free e = refl
free_is (Grabbed g) e = absurd (false≢true e)
free_is (Inhibited us) e = absurd (false≢true e)
free_is (Giving g r) e = absurd (false≢true e)
free_is (Given r) e = absurd (false≢true e)

pub record TokenRow (us : Users) (i k : ℕ) (t : Token) : Type 0 where
  pub small : k ≤ 65535
  pub plain : t ≡ token_of (hold t)
  pub busy : is_free (hold t) ≡ false
  pub held : Held us (hold t)

-- ---- the domain

pub record Sound (d : Domain) : Type 0 where
  pub limits_ok : So (in_range d.limits)
  pub links_fit : d.links < 2 ^ 16
  pub users_are : Table 64 d.limits.users 0 (UserRow d.links d.channels) d.users.ids d.users.at
  pub channels_are : Table 128 d.limits.channels no_channel (ChannelRow d.links d.users) d.channels.ids d.channels.cells
  pub tokens_are : Table 64 d.limits.tokens no_token (TokenRow d.users) d.tokens.ids d.tokens.cells

pub between_is : (a b x : ℕ) → between a b x ≡ true → (a ≤ x) × (x ≤ b)
unfolding between
between_is a b x h = let r = and_parts (leb a x) (leb x b) h in (leb-true a x r.0, leb-true x b r.1)

pub is_between : (a b x : ℕ) → a ≤ x → x ≤ b → between a b x ≡ true
unfolding between
is_between a b x h k = and_both (le-leb a x h) (le-leb x b k)

-- a free id is in range, and at no place of the channels
pub free_parts : (d : Domain) (new : ℕ) → FreeId d new → (1001 ≤ new) × (new ≤ 65535) × ((j : ℕ) → get_or d.channels.ids j 0 ≡ new → ⊥)
free_parts d new free =
    let r = and_parts (between 1001 65535 new) (not (found (find d.channels.ids new))) free in
    let b = between_is 1001 65535 new r.0 in
    (b.0, b.1, not_there d.channels.ids new (not-true _ r.1) (omega (arith, b.0)))

pub limits_le : (l : Limits) → So (in_range l) → (l.channels ≤ 128) × (l.users ≤ 64) × (l.tokens ≤ 64)
unfolding in_range
limits_le l h =
    let a = and_parts (between 1 128 l.channels && between 1 64 l.users) (between 1 64 l.tokens) h in
    let b = and_parts (between 1 128 l.channels) (between 1 64 l.users) a.0 in
    ((between_is 1 128 _ b.0).1, (between_is 1 64 _ b.1).1, (between_is 1 64 _ a.1).1)

-- what a request leaves behind is sound
abbrev pub Fine : Effect Domain → Type 0
Fine ignored = Unit {0}
Fine (done e rs) = Sound e
