-- Tests of a conference after every event: the tables' rules, and what history says of tokens against the tables.
use Rattle.std.specs.Prelude.{ℕ, Bool, true, false, not, ◌&&◌, List, [], ◌∷◌}
use Rattle.cols_spec.specs.Sets.{all}
use Rattle.cols_spec.specs.Places.{At, Nowhere, find}
use Rattle.domain.specs.declared.Limits.{Limits}
use Rattle.domain.specs.Tokens.{offered_to}
use Rattle.domain.specs.Tables.{Domain, fresh, state}
use Rattle.domain.specs.Good.{good}
use Rattle.domain.specs.History.{nothing_yet, begins, open_offer, gain, held}
use Rattle.domain.specs.Claims.{Turn, Run, run, now, past, next_run, holder, formed}
use Rattle.test_conferences.specs.Offers.{turns as offers}
use Rattle.test_conferences.specs.Private.{turns as private}
use Rattle.test_conferences.specs.Joins.{turns as joins}
use Rattle.test_conferences.specs.Limits.{turns as limits}

-- the limits, and the events with their rooms
abbrev pub Conference : Type 0
Conference = Limits × List Turn

-- these limits, these events
abbrev pub conference : (channels users tokens : ℕ) → List Turn → Conference
conference c u t ts = (record { channels = c; users = u; tokens = t }, ts)

-- the four, each with its limits
unfoldable pub conferences : List Conference
conferences = conference 128 64 64 offers ∷ conference 128 64 64 private ∷ conference 128 64 64 joins ∷ conference 4 3 1 limits ∷ []

-- every event is one that reading octets gives
unfoldable pub all_formed : Conference → Bool
all_formed c = all (λ t. formed t.0) c.1

-- a test passes from a run on: at once, and after every event
unfoldable pub onward : (Run → Bool) → Run → List Turn → Bool
onward f r [] = f r
onward f r (t ∷ ts) = let rest = onward f (next_run r t) ts in f r && rest

-- and so from a fresh domain
unfoldable pub always : (Run → Bool) → Conference → Bool
always f c = onward f (run (fresh c.0) (begins nothing_yet)) c.1

-- the tables' rules hold
unfoldable pub good_now : Run → Bool
good_now r = good (now r)

-- both or neither
unfoldable pub alike : Bool → Bool → Bool
alike true b = b
alike false b = not b

-- token k is offered to user u, by the table
unfoldable pub offered : Domain → ℕ → ℕ → Bool
offered d k u = elim (find d.users.ids u) [ At i ↦ offered_to (state d.tokens k) i | Nowhere ↦ false ]

-- history and table say the same of token k and user u
unfoldable pub agrees_on : (r : Run) (k u : ℕ) → Bool
agrees_on r k u = alike (held (gain (past r) k u)) (holder (now r) k u) && alike (open_offer (past r) k u) (offered (now r) k u)

-- the tokens and users that occur in the conferences
unfoldable pub agrees : Run → Bool
agrees r = all (λ k. all (agrees_on r k) (1001 ∷ 1002 ∷ 1003 ∷ 1004 ∷ 1005 ∷ [])) (1 ∷ 5 ∷ 6 ∷ 7 ∷ 9 ∷ [])
