-- The tables as lists, each ascending by id: what an image holds, before it is octets (T-02). They are equal exactly where the tables say the same.
use Rattle.std.specs.Prelude.{ℕ, ◌≡◌, List, [], ◌∷◌, eqb, if◌then◌else◌}
use Rattle.std.proofs.Math.Option.{Option, none, some}
use Rattle.cols_spec.specs.Sets.{each}
use Rattle.cols_spec.specs.Places.{in_order}
use Rattle.domain.specs.declared.Limits.{Limits}
use Rattle.domain.specs.Tables.{Domain}
use Rattle.domain.specs.Good.{Good}
use Rattle.domain_laws.specs.Same.{home_of, Role, channel_at, Standing, nobody, token_at, Same}

-- the limits, the mask of the open connections, and rows: a user's id and connection; a channel's id, what it is and the mask of the connections joined; a token's
-- id and state
pub record View : Type 0 where
  pub limits : Limits
  pub links : ℕ
  pub users : List (ℕ × ℕ)
  pub channels : List (ℕ × (Role × ℕ))
  pub tokens : List (ℕ × Standing)

-- the row of an id of which something is said, else none
abbrev pub row : {A : Type 0} → ℕ → Option A → List (ℕ × A)
row x none = []
row x (some a) = (x, a) ∷ []

-- the users, the channels in use and the tokens in use
unfoldable pub view : Domain → View
view d = record {
  limits = d.limits;
  links = d.links;
  users = each (λ u. row u (home_of d.users u)) (in_order d.users.ids);
  channels = each (λ c. row c (channel_at d.users d.channels c)) (in_order d.channels.ids);
  tokens = each (λ k. row k (some (token_at d.users d.tokens k))) (in_order d.tokens.ids);
}

-- what the first row of an id says of it
unfoldable pub pick : {A : Type 0} → ℕ → List (ℕ × A) → Option A
pick x [] = none
pick x (r ∷ rs) = let rest = pick x rs in if eqb x r.0 then some r.1 else rest

-- the state of a token: nobody has one that has no row
unfoldable pub or_nobody : Option Standing → Standing
or_nobody none = nobody
or_nobody (some s) = s

-- equal tables have equal lists, and the reverse
abbrev pub ViewsEqual : Type 0
ViewsEqual = (d e : Domain) → Good d → Good e → (Same d e → view d ≡ view e) × (view d ≡ view e → Same d e)
