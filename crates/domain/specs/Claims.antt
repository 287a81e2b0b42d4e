-- What is claimed of every run: the rules of the tables, and what history says of tokens. Begun has the claims of runs from an image.
use Rattle.std.specs.Prelude.{ℕ, ◌≤◌, ◌≡◌, Bool, true, false, not, ◌&&◌, List, [], ◌∷◌, eqb, leb}
use Rattle.std.proofs.Math.Bool.{So}
use Rattle.std.proofs.Math.Option.{some}
use Rattle.cols_spec.specs.Sets.{has, all}
use Rattle.cols_spec.specs.Places.{At, Nowhere, find, used}
use Rattle.codec_table.specs.Named.{Message, TGrq, TIrq, formed as formed_message}
use Rattle.domain.specs.declared.Limits.{Limits}
use Rattle.domain.specs.declared.token.Holding.{Holding}
use Rattle.domain.specs.declared.token.Holding.TheVariants.{Free, Grabbed, Inhibited, Giving, Given}
use Rattle.domain.specs.Tables.{Domain, fresh, state, between, in_range, FreeId}
use Rattle.domain.specs.Events.{Event, opens, loses, hears, reads, refuses, step, step_with}
use Rattle.domain.specs.Good.{Good}
use Rattle.domain.specs.History.{History, nothing_yet, begins, ◌▹◌, full, told, home, gain, held, alone, busy, count}

-- what reading octets gives: a message with its fields in range, or a refusal with 4 to 8
unfoldable pub formed : Event → Bool
formed (opens p) = true
formed (loses p) = true
formed (hears p (reads m)) = formed_message m
formed (hears p (refuses n octets)) = between 4 8 n

-- ---- runs

-- an event with the room for its answer
abbrev pub Turn : Type 0
Turn = Event × ℕ

-- the tables, and the history that led to them
pub data Run : Type 0 where
  run : Domain → History → Run

-- its tables
unfoldable pub now : Run → Domain
now (run d h) = d

-- its history
unfoldable pub past : Run → History
past (run d h) = h

-- one event more
unfoldable pub next_run : Run → Turn → Run
next_run r t =
    let o = step (now r) t.0 t.1 in
    run o.domain (record { event = t.0; reply = o.reply; sent = o.sent } ▹ past r)

-- one event after another
unfoldable pub goes : Run → List Turn → Run
goes r [] = r
goes r (t ∷ ts) = goes (next_run r t) ts

-- any events, with any rooms, from a fresh domain
unfoldable pub from_fresh : Limits → List Turn → Run
from_fresh l ts = goes (run (fresh l) (begins nothing_yet)) ts

-- ---- the table's holders: the grabber, the inhibitors, the giver in giving; nobody in given

unfoldable pub holds : Holding → ℕ → Bool
holds Free i = false
holds (Grabbed g) i = eqb g i
holds (Inhibited us) i = has us i
holds (Giving g r) i = eqb g i
holds (Given r) i = false

-- by the user's id
unfoldable pub holder : Domain → ℕ → ℕ → Bool
holder d k u = elim (find d.users.ids u) [ At i ↦ holds (state d.tokens k) i | Nowhere ↦ false ]

-- ---- the claims

-- a fresh domain keeps the rules
abbrev pub GoodFresh : Type 0
GoodFresh = (l : Limits) → So (in_range l) → Good (fresh l)

-- every event keeps them, also for another maker's choice of a new id (T-10)
abbrev pub GoodStep : Type 0
GoodStep =
    (d : Domain) (new : ℕ) (e : Event) (room : ℕ) → Good d → So (formed e) → FreeId d new
    → Good (step_with new d e room).domain

-- of a run; `tokens` is the limit of tokens that it was started with
module _ (r : Run) where
  -- (i) holders read from the history are the table's
  abbrev pub SameHolders : Type 0
  SameHolders = (k u : ℕ) → held (gain (past r) k u) ≡ holder (now r) k u

  -- (ii) a holder whose last gain was a grab or an accepted offer is the only one
  abbrev pub OnlyHolder : Type 0
  OnlyHolder = (k u v : ℕ) → So (alone (gain (past r) k u)) → So (held (gain (past r) k v)) → v ≡ u

  -- (iii) the number of tokens with a holder or an open offer is the table's count, and within the limit
  abbrev pub Counted : (tokens : ℕ) → Type 0
  Counted tokens = (count (past r) ≡ used (now r).tokens.ids) × (count (past r) ≤ tokens)

  -- (iv) a grab or inhibit by an attached user, answered 0, is told too-many-tokens exactly when a free token is asked for at the limit
  abbrev pub ToldFull : (tokens : ℕ) (request : (ℕ → ℕ → Message)) → Type 0
  ToldFull tokens request =
      (p u k room : ℕ)
      → home (past r) u ≡ some p
      → (step (now r) (hears p (reads (request u k))) room).reply ≡ 0
      → told (record { event = hears p (reads (request u k)); reply = 0; sent = (step (now r) (hears p (reads (request u k))) room).sent }) full u k
      ≡ (not (busy (past r) k) && leb tokens (count (past r)))

  -- all four
  abbrev pub Claims : (tokens : ℕ) → Type 0
  Claims tokens = SameHolders × OnlyHolder × Counted tokens × ToldFull tokens TGrq × ToldFull tokens TIrq

-- of every run of events in range, from a fresh domain
abbrev pub Demand3 : Type 0
Demand3 = (l : Limits) (ts : List Turn) → So (in_range l) → So (all (λ t. formed t.0) ts) → Claims (from_fresh l ts) l.tokens
