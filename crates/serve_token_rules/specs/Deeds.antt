-- What is asked for of a token, and what is done of it.
use Rattle.std.specs.Prelude.{ℕ, ◌≡◌, Bool, Option, Some, None, List, [], ◌∷◌}
use Rattle.cols_spec.specs.Places.{find}
use Rattle.codec_table.specs.Named.{Message}
use Rattle.out_records.specs.Records.{to, wire}
use Rattle.domain.specs.Tables.{Users, Tokens}
use Rattle.domain.specs.Effects.{Effect, ignored, done}
use Rattle.domain.specs.Passing.{take_token, share_token, drop_token, offer, answer}
use Rattle.domain_tables.specs.Numbered.{set_at}
use Rattle.serve_token_rules.specs.declared.Ask.{Ask}
use Rattle.serve_token_rules.specs.declared.Ask.TheVariants.{Grab, Inhibit, Release, Offer, Answer}
use Rattle.serve_token_rules.specs.declared.Fate.{Fate}
use Rattle.serve_token_rules.specs.declared.Fate.TheVariants.{Ignored, Stays, Turns}
use Rattle.serve_token_rules.specs.declared.Told.{Told as ToldStruct}
use Rattle.serve_token_rules.specs.declared.Deed.{Deed}

-- what comes of each; the limit matters to the first two
abbrev pub asked : (ask : Ask) (full : Bool) (us : Users) (ts : Tokens) (p u k : ℕ) → Effect Tokens
asked Grab full us ts p u k = take_token full us ts p u k
asked Inhibit full us ts p u k = share_token full us ts p u k
asked Release full us ts p u k = drop_token us ts p u k
asked (Offer r) full us ts p u k = offer us ts p u k r
asked (Answer n) full us ts p u k = answer us ts p n u k

-- the tables are then these, and connection q is told the message of these octets
pub record Told (q : ℕ) (m : List ℕ) (after : Tokens) (e : Effect Tokens) : Type 0 where
  pub message : Message
  pub octets : m ≡ wire message
  pub effect : e ≡ done after (to q message ∷ [])

-- or nobody is told
unfoldable pub Telling : Option ToldStruct → (after : Tokens) (e : Effect Tokens) → Type 0
Telling (Some t) after e = Told t.q t.m after e
Telling None after e = e ≡ done after []

abbrev pub Tells : (d : Deed) (after : Tokens) (e : Effect Tokens) → Type 0
Tells d after e = Telling d.told after e

-- the table of tokens after it: the cell of the state that token k turns to stands at its place
unfoldable pub fated : (ts : Tokens) (k : ℕ) (fate : Fate) → Tokens
fated ts k Ignored = ts
fated ts k Stays = ts
fated ts k (Turns t) = set_at ts (find ts.ids k) k t

-- the deed is the effect e
unfoldable pub Doing : (fate : Fate) (rest : Type 0) (e : Effect Tokens) → Type 0
Doing Ignored rest e = e ≡ ignored
Doing Stays rest e = rest
Doing (Turns t) rest e = rest

unfoldable pub Does : (ts : Tokens) (k : ℕ) (d : Deed) (e : Effect Tokens) → Type 0
Does ts k d e = Doing d.fate (Tells d (fated ts k d.fate) e) e
