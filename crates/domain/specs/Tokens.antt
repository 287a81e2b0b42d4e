-- One token: what a request by the user at place u makes of its state, and its status for that user. Users are named by their places.
use Rattle.std.specs.Prelude.{ℕ, Bool, true, false, eqb, if◌then◌else◌, Result, Ok, Err}
use Rattle.domain.specs.declared.token.Holding.{Holding}
use Rattle.domain.specs.declared.token.Holding.TheVariants.{Free, Grabbed, Inhibited, Giving, Given}
use Rattle.domain.specs.declared.numbers.Result.{Result as Why}
use Rattle.domain.specs.Numbers.{result_number}
use Rattle.cols_spec.specs.Sets.{has, with, without, minus, only, seats}
use Rattle.codec_table.specs.Named.{token_not_available, token_not_possessed, too_many_tokens}
use Rattle.codec_table.specs.Named.{not_in_use, self_grabbed, other_grabbed, self_inhibited, other_inhibited, self_recipient, self_giving, other_giving}

-- what a request makes of a token: it fails with a result and changes nothing, or succeeds and the state is then this
pub data Turned : Type 0 where
  fails : ℕ → Turned
  turns : Holding → Turned

abbrev pub turned_of : Result Holding Why → Turned
turned_of (Err r) = fails (result_number r)
turned_of (Ok h) = turns h

-- the first that fits: notInUse; selfGrabbed, otherGrabbed; selfInhibited, otherInhibited; giving by u selfGiving; giving or given to u
-- selfRecipient; else otherGiving
unfoldable pub status : Holding → ℕ → ℕ
status Free u = not_in_use
status (Grabbed g) u = if eqb g u then self_grabbed else other_grabbed
status (Inhibited us) u = if has us u then self_inhibited else other_inhibited
status (Giving g r) u = if eqb g u then self_giving else if eqb r u then self_recipient else other_giving
status (Given r) u = if eqb r u then self_recipient else other_giving

-- inhibited by a set, free if it is empty
unfoldable pub inhibited : ℕ → Holding
inhibited us = if eqb us 0 then Free else Inhibited us

-- TGrq. Free: grabbed, or too-many-tokens at the limit. Inhibited by u alone: grabbed. Else token-not-available, also where u has grabbed it
unfoldable pub grab : (full : Bool) (h : Holding) (u : ℕ) → Turned
grab full Free u = if full then fails too_many_tokens else turns (Grabbed u)
grab full (Grabbed g) u = fails token_not_available
grab full (Inhibited us) u = if eqb us (only seats u) then turns (Grabbed u) else fails token_not_available
grab full (Giving g r) u = fails token_not_available
grab full (Given r) u = fails token_not_available

-- TIrq. Free: inhibited, or too-many-tokens. Grabbed by u: inhibited by u. Inhibited: u is in the set. Else token-not-available
unfoldable pub inhibit : (full : Bool) (h : Holding) (u : ℕ) → Turned
inhibit full Free u = if full then fails too_many_tokens else turns (Inhibited (only seats u))
inhibit full (Grabbed g) u = if eqb g u then turns (Inhibited (only seats u)) else fails token_not_available
inhibit full (Inhibited us) u = turns (Inhibited (with seats us u))
inhibit full (Giving g r) u = fails token_not_available
inhibit full (Given r) u = fails token_not_available

-- TRrq. Grabbed by u: free. u an inhibitor: out of the set, free if it is empty. Giving by u: given. Else token-not-possessed
unfoldable pub release : (h : Holding) (u : ℕ) → Turned
release Free u = fails token_not_possessed
release (Grabbed g) u = if eqb g u then turns Free else fails token_not_possessed
release (Inhibited us) u = if has us u then turns (inhibited (without seats us u)) else fails token_not_possessed
release (Giving g r) u = if eqb g u then turns (Given r) else fails token_not_possessed
release (Given r) u = fails token_not_possessed

-- TVrq asks whether u has grabbed it
unfoldable pub grabbed_by : Holding → ℕ → Bool
grabbed_by Free u = false
grabbed_by (Grabbed g) u = eqb g u
grabbed_by (Inhibited us) u = false
grabbed_by (Giving g r) u = false
grabbed_by (Given r) u = false

-- TVrs asks whether it is giving or given to u
unfoldable pub offered_to : Holding → ℕ → Bool
offered_to Free u = false
offered_to (Grabbed g) u = false
offered_to (Inhibited us) u = false
offered_to (Giving g r) u = eqb r u
offered_to (Given r) u = eqb r u

-- TVrs. Successful: grabbed by u. Any other result: giving returns to grabbed g, given becomes free
unfoldable pub responded : (b : Bool) (h : Holding) (u : ℕ) → Holding
responded true h u = Grabbed u
responded false Free u = Free
responded false (Grabbed g) u = Grabbed g
responded false (Inhibited us) u = Inhibited us
responded false (Giving g r) u = Grabbed g
responded false (Given r) u = Free

-- TPrq. The grabber, the inhibitors, giver and recipient
unfoldable pub party : Holding → ℕ
party Free = 0
party (Grabbed g) = only seats g
party (Inhibited us) = us
party (Giving g r) = with seats (only seats g) r
party (Given r) = only seats r

-- giving without g is given, without r it is grabbed g, without both it is free
unfoldable pub lose_offer : (giver recipient : Bool) (g r : ℕ) → Holding
lose_offer giver recipient g r = if giver then if recipient then Free else Given r else if recipient then Grabbed g else Giving g r

-- Leavers, as a set. Grabbed, inhibited and given lose them, free if none is left; giving as above
unfoldable pub lose : ℕ → Holding → Holding
lose gone Free = Free
lose gone (Grabbed g) = if has gone g then Free else Grabbed g
lose gone (Inhibited us) = inhibited (minus seats us gone)
lose gone (Giving g r) = lose_offer (has gone g) (has gone r) g r
lose gone (Given r) = if has gone r then Free else Given r
