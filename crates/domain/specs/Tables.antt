-- The tables of the domain: who is where, which channels are in use, who has which token, and how a table changes as a whole. A table is the list
-- of its places' ids, 0 for a free place, and the list of what stands there.
use Rattle.std.specs.Prelude.{ℕ, Bool, true, false, not, ◌&&◌, List, [], ◌∷◌, map, eqb, leb, get_or, set, replicate, if◌then◌else◌}
use Rattle.std.proofs.Math.Bool.{So}
use Rattle.std.proofs.Math.Option.{Option, none, some}
use Rattle.domain.specs.declared.Limits.{Limits}
use Rattle.domain.specs.declared.channel.Kind.{Kind}
use Rattle.domain.specs.declared.channel.Kind.TheVariants.{Static, User, Private, Assigned}
use Rattle.domain.specs.declared.channel.Channel.{Channel}
use Rattle.domain.specs.declared.token.Holding.{Holding}
use Rattle.domain.specs.declared.token.Holding.TheVariants.{Free, Grabbed, Inhibited, Giving, Given}
use Rattle.domain.specs.declared.token.Token.{Token}
use Rattle.domain.specs.Cells.{no_channel, no_token, kind, with_marks, hold, token_of}
use Rattle.cols_spec.specs.Sets.{any, below, has, those, with, connections, seats}
use Rattle.cols_spec.specs.Places.{Place, At, Nowhere, find, found, spare, seat, used, store, load, sweep, unused}

pub record Users : Type 0 where
  pub ids : List ℕ
  pub at : List ℕ

pub record Channels : Type 0 where
  pub ids : List ℕ
  pub cells : List Channel

pub record Tokens : Type 0 where
  pub ids : List ℕ
  pub cells : List Token

pub record Domain : Type 0 where
  pub limits : Limits
  pub links : ℕ
  pub users : Users
  pub channels : Channels
  pub tokens : Tokens

-- what is said of a place, or of an id that has none
abbrev pub seen : {A : Type 0} (at : Place) (none_there : A) (of_place : (ℕ → A)) → A
seen (At i) z f = f i
seen Nowhere z f = z

-- ---- the columns: a table is lent as one array of numbers for each part of a place

abbrev pub users_of : List ℕ → List ℕ → Users
users_of ids links = record { ids = ids; at = links }

unfoldable pub channel_cells : (kinds managers admitted joined : List ℕ) → List Channel
channel_cells [] cs gs ms = []
channel_cells (r ∷ rs) [] gs ms = []
channel_cells (r ∷ rs) (c ∷ cs) [] ms = []
channel_cells (r ∷ rs) (c ∷ cs) (g ∷ gs) [] = []
channel_cells (r ∷ rs) (c ∷ cs) (g ∷ gs) (m ∷ ms) = record { role = r; chair = c; guests = g; marks = m } ∷ channel_cells rs cs gs ms

abbrev pub channels_of : (ids kinds managers admitted joined : List ℕ) → Channels
channels_of ids kinds managers admitted joined = record { ids = ids; cells = channel_cells kinds managers admitted joined }

unfoldable pub token_cells : (states values : List ℕ) → List Token
token_cells [] vs = []
token_cells (m ∷ ms) [] = []
token_cells (m ∷ ms) (v ∷ vs) = record { mode = m; value = v } ∷ token_cells ms vs

abbrev pub tokens_of : (ids states values : List ℕ) → Tokens
tokens_of ids states values = record { ids = ids; cells = token_cells states values }

-- ---- users

-- the id of the user at a place, and its connection; 16 is no connection
unfoldable pub name : Users → ℕ → ℕ
name us i = get_or us.ids i 0

unfoldable pub link : Users → ℕ → ℕ
link us i = get_or us.at i connections

-- the place of user u, where u is attached on p
unfoldable pub attached : (us : Users) (p u : ℕ) → Place
attached us p u = elim (find us.ids u) [ At i ↦ if eqb (link us i) p then At i else Nowhere | Nowhere ↦ Nowhere ]

-- user u, attached on p, at the spare place
unfoldable pub add_user : (us : Users) (u p : ℕ) → Users
add_user us u p = record { ids = store us.ids (spare us.ids) u; at = store us.at (spare us.ids) p }

-- what becomes of a user's place when those at the places of a mask leave
unfoldable pub stays_on : (gone i u p : ℕ) → Option ℕ
stays_on gone i u p = if has gone i then none else some p

-- every place
unfoldable pub remove_users : Users → ℕ → Users
remove_users us gone =
    let left = sweep 0 (stays_on gone) 0 us.ids us.at in
    record { ids = map (λ r. r.0) left; at = map (λ r. r.1) left }

-- the mask of the connections that have a user of a mask of places
unfoldable pub hosts : Users → ℕ → ℕ
hosts us who = those connections λ q. any (λ i. has who i && eqb (link us i) q) (below seats)

-- ---- channels

unfoldable pub channel : Channels → ℕ → Channel
channel cs j = get_or cs.cells j no_channel

unfoldable pub add_channel : (cs : Channels) (c : ℕ) (ch : Channel) → Channels
add_channel cs c ch = record { ids = store cs.ids (spare cs.ids) c; cells = store cs.cells (spare cs.ids) ch }

unfoldable pub set_channel : (cs : Channels) (j : ℕ) (ch : Channel) → Channels
set_channel cs j ch = record { ids = cs.ids; cells = set cs.cells j ch }

unfoldable pub end_channel : Channels → ℕ → Channels
end_channel cs j = record { ids = set cs.ids j 0; cells = set cs.cells j no_channel }

-- every channel in use at once: `fate` gives the channel as it is then, or none where it ends
unfoldable pub sweep_channels : (ℕ → Channel → Option Channel) → Channels → Channels
sweep_channels fate cs =
    let left = sweep no_channel (λ j c ch. fate c ch) 0 cs.ids cs.cells in
    record { ids = map (λ r. r.0) left; cells = map (λ r. r.1) left }

-- the manager and the admitted users of a private channel; nobody of any other
unfoldable pub members : Kind → ℕ
members Static = 0
members User = 0
members (Private m us) = with seats us m
members Assigned = 0

-- static and assigned channels end with nobody joined
unfoldable pub lapses : Kind → Bool
lapses Static = true
lapses User = false
lapses (Private m us) = false
lapses Assigned = true

-- a channel with fewer marks; a static or assigned one with nobody joined ends
unfoldable pub narrowed : Channel → ℕ → Option Channel
narrowed ch m = if lapses (kind ch) && eqb m 0 then none else some (with_marks ch m)

-- ---- tokens

-- the state of token k
unfoldable pub state : Tokens → ℕ → Holding
state ts k = hold (load ts.cells (find ts.ids k) no_token)

unfoldable pub is_free : Holding → Bool
is_free Free = true
is_free (Grabbed g) = false
is_free (Inhibited us) = false
is_free (Giving g r) = false
is_free (Given r) = false

-- token k has state h; a free token has no place
unfoldable pub set_token : (ts : Tokens) (k : ℕ) (h : Holding) → Tokens
set_token ts k h =
    if is_free h then record { ids = store ts.ids (find ts.ids k) 0; cells = store ts.cells (find ts.ids k) no_token }
    else record { ids = store ts.ids (seat ts.ids k) k; cells = store ts.cells (seat ts.ids k) (token_of h) }

-- every token in use at once
unfoldable pub sweep_tokens : (Holding → Holding) → Tokens → Tokens
sweep_tokens f ts =
    let left = sweep no_token (λ i k t. if is_free (f (hold t)) then none else some (token_of (f (hold t)))) 0 ts.ids ts.cells in
    record { ids = map (λ r. r.0) left; cells = map (λ r. r.1) left }

-- ---- the domain

unfoldable pub fresh : Limits → Domain
fresh l = record {
  limits = l;
  links = 0;
  users = record { ids = replicate 64 0; at = replicate 64 0 };
  channels = record { ids = replicate 128 0; cells = replicate 128 no_channel };
  tokens = record { ids = replicate 64 0; cells = replicate 64 no_token };
}

abbrev pub put_links : Domain → ℕ → Domain
put_links d m = record { limits = d.limits; links = m; users = d.users; channels = d.channels; tokens = d.tokens }

abbrev pub put_channels : Domain → Channels → Domain
put_channels d cs = record { limits = d.limits; links = d.links; users = d.users; channels = cs; tokens = d.tokens }

abbrev pub put_tokens : Domain → Tokens → Domain
put_tokens d ts = record { limits = d.limits; links = d.links; users = d.users; channels = d.channels; tokens = ts }

abbrev pub put_both : Domain → Users × Channels → Domain
put_both d b = record { limits = d.limits; links = d.links; users = b.0; channels = b.1; tokens = d.tokens }

-- a number within a range
unfoldable pub between : (a b x : ℕ) → Bool
between a b x = leb a x && leb x b

-- start limits: channel ids 1 to 128, user ids 1 to 64, tokens 1 to 64
unfoldable pub in_range : Limits → Bool
in_range l = between 1 128 l.channels && between 1 64 l.users && between 1 64 l.tokens

-- a limit is reached. Channels in use count static, user id, private and assigned together
unfoldable pub at_limit : (limit : ℕ) (ids : List ℕ) → Bool
at_limit limit ids = leb limit (used ids)

-- the id that a new user, assigned or private channel gets
unfoldable pub grant : Channels → ℕ
grant cs = unused 128 cs.ids 1001

-- an id from 1001 that no channel has, so no user either: it may be handed out
abbrev pub free_id : Channels → ℕ → Bool
free_id cs new = between 1001 65535 new && not (found (find cs.ids new))

-- "theirs to choose among free ones from 1001" (T-10)
abbrev pub FreeId : Domain → ℕ → Type 0
FreeId d new = So (free_id d.channels new)

-- the domain of all its columns
abbrev pub domain_of : (l : Limits) (links : ℕ) (user_ids user_links channel_ids channel_kinds managers admitted joined token_ids token_states token_values : List ℕ) → Domain
domain_of l m user_ids user_links channel_ids channel_kinds managers admitted joined token_ids token_states token_values = record {
  limits = l;
  links = m;
  users = users_of user_ids user_links;
  channels = channels_of channel_ids channel_kinds managers admitted joined;
  tokens = tokens_of token_ids token_states token_values;
}
