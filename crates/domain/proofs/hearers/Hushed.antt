-- The messages of which history hears nothing of private channels: requests about tokens, heights, refusals. Assumes nothing.
use mathlib.Core.Path.{◌≡◌, refl}
use mathlib.Core.Bool.{Bool, true, false}
use mathlib.Core.List.{List, [], ◌∷◌}
use Prim.Native.Nat.{ℕ}
use Rattle.cols_spec.specs.Sets.{all}
use Rattle.codec_table.specs.Named.{Message}
use Rattle.out_records.specs.Records.{to, tell}
use Rattle.domain.specs.Tables.{Users, Tokens, Domain, put_tokens}
use Rattle.domain.specs.Effects.{Effect, ignored, done, within}
use Rattle.domain.specs.Passing.{take_token, share_token, drop_token, offer, answer, please, test}
use Rattle.domain.specs.Leaving.{farewell}
use Rattle.domain.specs.Events.{Event, complaint}
use Rattle.domain.specs.History.{History}
use Rattle.domain.specs.Hearers.{notice, event_opens}
use Rattle.domain.proofs.Sending.{one_all, tell_all, farewell_all, complaint_all}
use Rattle.domain.proofs.Answering.{Sends, take_all, share_all, drop_all, offer_all, please_all, test_all, answer_all}
use Rattle.domain.proofs.hearers.Notices.{says_nothing, hushed}
use Rattle.domain.proofs.hearers.Recalls.{Recalls, Fine, quiet, not_opened}

-- ---- lists of records

pub tell_hushed : (m : ℕ) (s : Message) → says_nothing (notice s) ≡ true → all hushed (tell m s) ≡ true
unfolding hushed
tell_hushed m s q = tell_all hushed m s (λ p. q)

pub say_hushed : (p : ℕ) (s : Message) → says_nothing (notice s) ≡ true → all hushed (to p s ∷ []) ≡ true
unfolding hushed
say_hushed p s q = one_all hushed (to p s) q

pub farewell_hushed : (d : Domain) (gone live reason : ℕ) (ids : List ℕ) → all hushed (farewell d gone live reason ids) ≡ true
unfolding hushed notice says_nothing
farewell_hushed = farewell_all hushed (λ p n ids. refl) (λ p c. refl) (λ p u k s. refl)

pub complaint_hushed : (n p : ℕ) (octets : List ℕ) → all hushed (complaint n p octets) ≡ true
unfolding hushed notice says_nothing
complaint_hushed = complaint_all hushed (λ p n octets. refl)

-- ---- tokens

module _ (us : Users) (ts : Tokens) (p u k : ℕ) where
  pub take_hush : (full : Bool) → Sends hushed (take_token full us ts p u k)
  unfolding hushed notice says_nothing
  take_hush = take_all hushed us ts p u k (λ n s. refl)

  pub share_hush : (full : Bool) → Sends hushed (share_token full us ts p u k)
  unfolding hushed notice says_nothing
  share_hush = share_all hushed us ts p u k (λ n s. refl)

  pub drop_hush : Sends hushed (drop_token us ts p u k)
  unfolding hushed notice says_nothing
  drop_hush = drop_all hushed us ts p u k (λ n s. refl)

  pub offer_hush : (r : ℕ) → Sends hushed (offer us ts p u k r)
  unfolding hushed notice says_nothing
  offer_hush r = offer_all hushed us ts p u k (λ n s. refl) r (λ q. refl)

  pub please_hush : Sends hushed (please us ts p u k)
  unfolding hushed notice says_nothing
  please_hush = please_all hushed us ts p u k (λ q. refl)

  pub test_hush : Sends hushed (test us ts p u k)
  unfolding hushed notice says_nothing
  test_hush = test_all hushed us ts p u k (λ s. refl)

pub answer_hush : (us : Users) (ts : Tokens) (p n r k : ℕ) → Sends hushed (answer us ts p n r k)
unfolding hushed notice says_nothing
answer_hush us ts p n r k = answer_all hushed us ts p n r k (λ q u s. refl)

-- such a request goes well
pub tokens_fine : (h : History) (d : Domain) → Recalls h d.users d.channels → (ev : Event) → ((q : ℕ) → event_opens ev q ≡ false) → (x : Effect Tokens) → Sends hushed x
    → Fine h ev (within (put_tokens d) x)
unfolding within
tokens_fine h d a ev o ignored q = tt
tokens_fine h d a ev o (done ts rs) q = quiet h d a ev (record { reply = 0; domain = put_tokens d ts; sent = rs }) (not_opened _ o) q refl refl
