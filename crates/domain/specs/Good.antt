-- What holds of the tables between events. Each rule is a test that computes; `Good d` is that every test passes.
use Rattle.std.specs.Prelude.{ℕ, ◌^◌, Bool, true, false, not, ◌&&◌, ◌||◌, eqb, leb, ltb, length}
use Rattle.std.proofs.Math.Bool.{So}
use Rattle.cols_spec.specs.Sets.{all, below, has, with, only, meet, connections, seats}
use Rattle.cols_spec.specs.Places.{At, Nowhere, find, used, distinct, every, load}
use Rattle.domain.specs.declared.channel.Kind.{Kind}
use Rattle.domain.specs.declared.channel.Kind.TheVariants.{Static, User, Private, Assigned}
use Rattle.domain.specs.declared.channel.Channel.{Channel}
use Rattle.domain.specs.declared.token.Holding.{Holding}
use Rattle.domain.specs.declared.token.Holding.TheVariants.{Free, Grabbed, Inhibited, Giving, Given}
use Rattle.domain.specs.declared.token.Token.{Token}
use Rattle.domain.specs.Cells.{no_channel, kind, channel_of, hold, token_of}
use Rattle.domain.specs.Tables.{Users, Domain, name, link, hosts, between, in_range}

-- the mask m has nothing but what n has
unfoldable pub inside : ℕ → ℕ → Bool
inside m n = eqb (meet connections m n) m

-- a user is at this place; at each place of this mask
unfoldable pub seated : Users → ℕ → Bool
seated us i = ltb 0 (name us i)

unfoldable pub all_seated : Users → ℕ → Bool
all_seated us m = ltb m (2 ^ 64) && all (λ i. not (has m i) || seated us i) (below seats)

-- ids of their kind; named users attached; marks only where they may be; nothing static or assigned with nobody on it
unfoldable pub channel_sound : (us : Users) (c : ℕ) (k : Kind) (m : ℕ) → Bool
channel_sound us c Static m = between 1 1000 c && ltb 0 m
channel_sound us c User m = between 1001 65535 c && elim (find us.ids c) [ At i ↦ inside m (only connections (link us i)) | Nowhere ↦ false ]
channel_sound us c (Private g adm) m = between 1001 65535 c && seated us g && all_seated us adm && inside m (hosts us (with seats adm g))
channel_sound us c Assigned m = between 1001 65535 c && ltb 0 m

-- named users attached; nothing inhibited with nobody on it
unfoldable pub token_sound : Users → Holding → Bool
token_sound us Free = false
token_sound us (Grabbed g) = seated us g
token_sound us (Inhibited is) = ltb 0 is && all_seated us is
token_sound us (Giving g r) = seated us g && seated us r
token_sound us (Given r) = seated us r

unfoldable pub is_user : Kind → Bool
is_user Static = false
is_user User = true
is_user (Private g us) = false
is_user Assigned = false

-- the numbers at a place are those of its kind or state, and no others; those of a free place are all 0
unfoldable pub same_channel : Channel → Channel → Bool
same_channel a b = eqb a.role b.role && eqb a.chair b.chair && eqb a.guests b.guests && eqb a.marks b.marks

unfoldable pub same_token : Token → Token → Bool
same_token a b = eqb a.mode b.mode && eqb a.value b.value

-- place i of the users: free, or an id from 1001, an open connection, and a user id channel of that id
abbrev pub user_at_sound : Domain → (i u p : ℕ) → Bool
user_at_sound d = λ i u p.
    eqb u 0
    || between 1001 65535 u
    && has d.links p
    && is_user (kind (load d.channels.cells (find d.channels.ids u) no_channel))

-- place j of the channels: free, or the numbers of its kind, marks only on open connections, and the rules of its kind
abbrev pub channel_at_sound : Domain → (j c : ℕ) → Channel → Bool
channel_at_sound d = λ j c ch.
    eqb c 0
    || same_channel ch (channel_of (kind ch) ch.marks)
    && inside ch.marks d.links
    && channel_sound d.users c (kind ch) ch.marks

-- place i of the tokens: free, or an id, the numbers of its state, and the rules of its state
abbrev pub token_at_sound : Domain → (i k : ℕ) → Token → Bool
token_at_sound d = λ i k t.
    eqb k 0
    || leb k 65535
    && same_token t (token_of (hold t))
    && token_sound d.users (hold t)

-- no id stands twice, and every place is sound
unfoldable pub users_sound : Domain → Bool
users_sound d = distinct d.users.ids && every (user_at_sound d) 0 d.users.ids d.users.at

unfoldable pub channels_sound : Domain → Bool
channels_sound d = distinct d.channels.ids && every (channel_at_sound d) 0 d.channels.ids d.channels.cells

unfoldable pub tokens_sound : Domain → Bool
tokens_sound d = distinct d.tokens.ids && every (token_at_sound d) 0 d.tokens.ids d.tokens.cells

unfoldable pub counts_sound : Domain → Bool
counts_sound d =
    leb (used d.users.ids) d.limits.users && leb (used d.channels.ids) d.limits.channels && leb (used d.tokens.ids) d.limits.tokens

-- free places hold nothing, so that tables that went the same way are equal
unfoldable pub free_blank : Domain → Bool
free_blank d =
    every (λ i u p. ltb 0 u || eqb p 0) 0 d.users.ids d.users.at
    && every (λ j c ch. ltb 0 c || same_channel ch no_channel) 0 d.channels.ids d.channels.cells
    && every (λ i k t. ltb 0 k || same_token t (token_of Free)) 0 d.tokens.ids d.tokens.cells

-- the columns' lengths, and a mask of 16 connections: what Rattle's types say of a domain
unfoldable pub shaped : Domain → Bool
shaped d =
    eqb (length d.users.ids) 64
    && eqb (length d.users.at) 64
    && eqb (length d.channels.ids) 128
    && eqb (length d.channels.cells) 128
    && eqb (length d.tokens.ids) 64
    && eqb (length d.tokens.cells) 64
    && ltb d.links (2 ^ 16)

pub record Good (d : Domain) : Type 0 where
  pub limits_ok : So (in_range d.limits)
  pub shape_ok : So (shaped d)
  pub users_ok : So (users_sound d)
  pub channels_ok : So (channels_sound d)
  pub tokens_ok : So (tokens_sound d)
  pub counts_ok : So (counts_sound d)
  pub blank_ok : So (free_blank d)

-- the same as one test
unfoldable pub good : Domain → Bool
good d = in_range d.limits && shaped d && users_sound d && channels_sound d && tokens_sound d && counts_sound d && free_blank d
