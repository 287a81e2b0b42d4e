-- What is confirmed to the asker itself: every request but an answer, and an offer only where it is not passed on.
use Rattle.std.specs.Prelude.{ℕ, Bool, Option, if◌then◌else◌}
use Rattle.cols_spec.specs.Places.{load}
use Rattle.codec_table.specs.Named.{no_such_user, token_not_possessed}
use Rattle.out_messages.specs.declared.Confirm.{Confirm}
use Rattle.out_messages.specs.declared.Confirm.TheVariants as confirm
use Rattle.domain.specs.declared.token.Holding.{Holding}
use Rattle.domain.specs.Cells.{hold, no_token}
use Rattle.domain_tables.specs.declared.tokens.Tokens.{Tokens}
use Rattle.domain_tables.specs.Held.{token_cells_in}
use Rattle.domain_tables.specs.Numbered.{placed}
use Rattle.domain.specs.Tokens.{Turned, fails, grab, inhibit, release, grabbed_by}
use Rattle.serve_token_rules.specs.declared.Ask.{Ask}
use Rattle.serve_token_rules.specs.declared.Ask.TheVariants.{Grab, Inhibit, Release, Offer, Answer}

-- the state of the token at a place; at none, or where there is no such place, it is free
abbrev pub standing : (ts : Tokens) (at : Option ℕ) → Holding
standing ts at = hold (load (token_cells_in ts) (placed at) no_token)

-- why an offer by the user at place i is not passed on
abbrev pub refusal : (h : Holding) (i : ℕ) → ℕ
refusal h i = if grabbed_by h i then no_such_user else token_not_possessed

-- what it makes of a token in state h for the user at place i; an answer never comes to this, and goes as an offer does
unfoldable pub attempted : (ask : Ask) (full : Bool) (h : Holding) (i : ℕ) → Turned
attempted Grab full h i = grab full h i
attempted Inhibit full h i = inhibit full h i
attempted Release full h i = release h i
attempted (Offer r) full h i = fails (refusal h i)
attempted (Answer n) full h i = fails (refusal h i)

-- the kind of its confirm
unfoldable pub kind_of : Ask → Confirm
kind_of Grab = confirm.Grab
kind_of Inhibit = confirm.Inhibit
kind_of Release = confirm.Release
kind_of (Offer r) = confirm.Give
kind_of (Answer n) = confirm.Give
