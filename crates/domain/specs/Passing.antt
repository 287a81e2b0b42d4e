-- What requests about tokens do. The status in a confirm is the one after the change. `full` says that the token limit is reached.
use Rattle.std.specs.Prelude.{ℕ, Bool, List, [], ◌∷◌, eqb, if◌then◌else◌}
use Rattle.cols_spec.specs.Places.{At, Nowhere, find}
use Rattle.codec_table.specs.Named.{Message, TGcf, TIcf, TVin, TVcf, TPin, TRcf, TTcf, successful, no_such_user, token_not_possessed}
use Rattle.out_records.specs.Records.{Sent, to, tell}
use Rattle.domain.specs.declared.token.Holding.{Holding}
use Rattle.domain.specs.declared.token.Holding.TheVariants.{Free, Grabbed, Inhibited, Giving, Given}
use Rattle.domain.specs.Tables.{Users, Tokens, name, link, hosts, state, set_token}
use Rattle.domain.specs.Tokens.{Turned, fails, turns, status, grab, inhibit, release, grabbed_by, offered_to, responded, party}
use Rattle.domain.specs.Effects.{Effect, ignored, done, from}

-- a request by u, who is at place i: the confirm to p has the result, and the status for u after the change
unfoldable pub turn : (ts : Tokens) (p u i k : ℕ) (confirm : (ℕ → ℕ → ℕ → ℕ → Message)) (t : Turned) → Effect Tokens
turn ts p u i k confirm (fails n) = done ts (to p (confirm n u k (status (state ts k) i)) ∷ [])
turn ts p u i k confirm (turns h) = done (set_token ts k h) (to p (confirm successful u k (status h i)) ∷ [])

-- TGrq, TIrq, TRrq
unfoldable pub take_token : (full : Bool) (us : Users) (ts : Tokens) (p u k : ℕ) → Effect Tokens
take_token full us ts p u k = from us p u λ i. turn ts p u i k TGcf (grab full (state ts k) i)

unfoldable pub share_token : (full : Bool) (us : Users) (ts : Tokens) (p u k : ℕ) → Effect Tokens
share_token full us ts p u k = from us p u λ i. turn ts p u i k TIcf (inhibit full (state ts k) i)

unfoldable pub drop_token : (us : Users) (ts : Tokens) (p u k : ℕ) → Effect Tokens
drop_token us ts p u k = from us p u λ i. turn ts p u i k TRcf (release (state ts k) i)

-- TVrq. Not grabbed by u: TVcf token-not-possessed. Recipient not attached: TVcf no-such-user. Else giving, TVin to the recipient's connection
unfoldable pub offer : (us : Users) (ts : Tokens) (p u k r : ℕ) → Effect Tokens
offer us ts p u k r = from us p u λ i.
    if grabbed_by (state ts k) i
    then elim (find us.ids r) [
      | At j ↦ done (set_token ts k (Giving i j)) (to (link us j) (TVin u k r) ∷ [])
      | Nowhere ↦ done ts (to p (TVcf no_such_user u k (status (state ts k) i)) ∷ [])
    ]
    else done ts (to p (TVcf token_not_possessed u k (status (state ts k) i)) ∷ [])

-- from giving, TVcf with that result to g
unfoldable pub informed : (us : Users) (n k : ℕ) (before after : Holding) → List Sent
informed us n k Free h = []
informed us n k (Grabbed g) h = []
informed us n k (Inhibited is) h = []
informed us n k (Giving g r) h = to (link us g) (TVcf n (name us g) k (status h g)) ∷ []
informed us n k (Given r) h = []

-- TVrs. r must be attached on p and the token be giving or given to r, else ignored
unfoldable pub answer : (us : Users) (ts : Tokens) (p n r k : ℕ) → Effect Tokens
answer us ts p n r k = from us p r λ i.
    let h = responded (eqb n successful) (state ts k) i in
    if offered_to (state ts k) i then done (set_token ts k h) (informed us n k (state ts k) h)
    else ignored

-- TPrq. TPin once to each connection with a grabber, inhibitor, giver or recipient
unfoldable pub please : (us : Users) (ts : Tokens) (p u k : ℕ) → Effect Tokens
please us ts p u k = from us p u λ i. done ts (tell (hosts us (party (state ts k))) (TPin u k))

-- TTrq. Status
unfoldable pub test : (us : Users) (ts : Tokens) (p u k : ℕ) → Effect Tokens
test us ts p u k = from us p u λ i. done ts (to p (TTcf u k (status (state ts k) i)) ∷ [])
