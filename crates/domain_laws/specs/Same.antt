-- What the tables say by ids alone, at whatever places users, channels and tokens stand. "Equal tables" in T-02 means tables that say the same: every event treats
-- them alike.
use Rattle.std.specs.Prelude.{ℕ, ◌≡◌, Bool, false, List}
use Rattle.std.proofs.Math.Bool.{So}
use Rattle.std.proofs.Math.Option.{Option, none, some}
use Rattle.cols_spec.specs.Sets.{keep, all, has}
use Rattle.cols_spec.specs.Places.{find, in_order}
use Rattle.domain.specs.declared.channel.Kind.{Kind}
use Rattle.domain.specs.declared.channel.Kind.TheVariants.{Static, User, Private, Assigned}
use Rattle.domain.specs.declared.token.Holding.{Holding}
use Rattle.domain.specs.declared.token.Holding.TheVariants.{Free, Grabbed, Inhibited, Giving, Given}
use Rattle.domain.specs.Cells.{kind}
use Rattle.domain.specs.Tables.{Users, Channels, Tokens, Domain, seen, name, link, channel, state, FreeId}
use Rattle.domain.specs.Effects.{Settled}
use Rattle.domain.specs.Events.{Event, Outcome, step_with, step}
use Rattle.domain.specs.Outcomes.{after, audience}
use Rattle.domain.specs.Good.{Good}
use Rattle.domain.specs.History.{History}
use Rattle.domain.specs.Claims.{formed, Turn, run, now, past, goes}

-- ---- users

-- the connection of user u, if u is attached
unfoldable pub home_of : Users → ℕ → Option ℕ
home_of us u = seen (find us.ids u) none (λ i. some (link us i))

-- user u is attached, at a place of the mask
unfoldable pub among : (us : Users) (m u : ℕ) → Bool
among us m u = seen (find us.ids u) false (has m)

-- the users at the places of a mask, by their ids, ascending
unfoldable pub ids_of : (us : Users) (m : ℕ) → List ℕ
ids_of us m = keep (among us m) (in_order us.ids)

-- ---- channels: the manager and the admitted by their user ids

-- what a channel is; of a private one the manager, and the admitted users, ascending
pub data Role : Type 0 where
  static user_id assigned : Role
  private_of : ℕ → List ℕ → Role

-- the kind of a channel, its users named by their ids
unfoldable pub role_of : Users → Kind → Role
role_of us Static = static
role_of us User = user_id
role_of us (Private g adm) = private_of (name us g) (ids_of us adm)
role_of us Assigned = assigned

-- channel c, if it is in use: what it is, and the mask of the connections joined
unfoldable pub channel_at : (us : Users) (cs : Channels) (c : ℕ) → Option (Role × ℕ)
channel_at us cs c = seen (find cs.ids c) none (λ j. some (role_of us (kind (channel cs j)), (channel cs j).marks))

-- ---- tokens: their users by ids

-- the state of a token: nobody has it; the grabber; the inhibitors, ascending; the giver and the recipient; the recipient, whose giver has left or released it
pub data Standing : Type 0 where
  nobody : Standing
  grabbed : ℕ → Standing
  inhibited : List ℕ → Standing
  giving : ℕ → ℕ → Standing
  given : ℕ → Standing

-- the state of a token, its users named by their ids
unfoldable pub standing : Users → Holding → Standing
standing us Free = nobody
standing us (Grabbed g) = grabbed (name us g)
standing us (Inhibited m) = inhibited (ids_of us m)
standing us (Giving g r) = giving (name us g) (name us r)
standing us (Given r) = given (name us r)

-- the state of token k
unfoldable pub token_at : (us : Users) (ts : Tokens) (k : ℕ) → Standing
token_at us ts k = standing us (state ts k)

-- ---- the tables

-- the same limits and open connections; and of each id the same user, the same channel, the same state of the token
pub record Same (d e : Domain) : Type 0 where
  pub limits : d.limits ≡ e.limits
  pub links : d.links ≡ e.links
  pub users : (u : ℕ) → home_of d.users u ≡ home_of e.users u
  pub channels : (c : ℕ) → channel_at d.users d.channels c ≡ channel_at e.users e.channels c
  pub tokens : (k : ℕ) → token_at d.users d.tokens k ≡ token_at e.users e.tokens k

-- it is an equivalence
abbrev pub SameEquivalence : Type 0
SameEquivalence = ((d : Domain) → Same d d) × ((d e : Domain) → Same d e → Same e d) × ((d e f : Domain) → Same d e → Same e f → Same d f)

-- ---- events and runs

-- the same reply, the same records, and tables that say the same
pub record Alike (o r : Outcome) : Type 0 where
  pub reply : o.reply ≡ r.reply
  pub sent : o.sent ≡ r.sent
  pub tables : Same o.domain r.domain

-- every event whose fields are in range, with any room, on tables that say the same
abbrev pub SameStep : Type 0
SameStep = (d e : Domain) (v : Event) (room : ℕ) → Good d → Good e → Same d e → So (formed v) → Alike (step d v room) (step e v room)

-- also for another choice of a new id (T-04, T-10): one from 1001 that is free in the one, and so in the other
abbrev pub SameStepWith : Type 0
SameStepWith =
    (d e : Domain) (new : ℕ) (v : Event) (room : ℕ) → Good d → Good e → Same d e → So (formed v) → FreeId d new
    → Alike (step_with new d v room) (step_with new e v room)

-- the same of the room lent for the answer, octet by octet
pub record SettledAlike (s t : Settled Domain) : Type 0 where
  pub reply : s.reply ≡ t.reply
  pub sent : s.sent ≡ t.sent
  pub room : s.room ≡ t.room
  pub tables : Same s.tables t.tables

abbrev pub SameAfter : Type 0
SameAfter = (d e : Domain) (v : Event) (out : List ℕ) → Good d → Good e → Same d e → So (formed v) → SettledAlike (after d v out) (after e v out)

-- any events, with any rooms: a restart with tables that say the same is not noticed, for history goes on alike
abbrev pub SameRun : Type 0
SameRun =
    (d e : Domain) (h : History) (ts : List Turn) → Good d → Good e → Same d e → So (all (λ t. formed t.0) ts)
    → (past (goes (run d h) ts) ≡ past (goes (run e h) ts)) × Same (now (goes (run d h) ts)) (now (goes (run e h) ts))

-- and the same audience of every channel
abbrev pub SameAudience : Type 0
SameAudience = (d e : Domain) (c : ℕ) → Good d → Good e → Same d e → audience d.channels c ≡ audience e.channels c
