-- Histories with the same replies and messages sent, and the same events wherever the reply is 0, name the same homes, offers and holders.
-- Assumes nothing.
use mathlib.Core.Path.{◌≡◌, refl, ap, ap₂}
use mathlib.Core.Bool.{Bool, true, false, ◌&&◌, ◌||◌}
use mathlib.Core.Option.{Option, none, some}
use Prim.Native.Nat.{ℕ}
use borrow.Author.Tests.{eqb-true}
use lib.Dec.{eqb}
use lib.ListN.{length}
use Rattle.cols_spec.specs.Sets.{any, keep, below}
use Rattle.domain.specs.Events.{Event}
use Rattle.domain.specs.History.{Entry, Start, History, begins, ◌▹◌, Word, detaches, closes, grabs, inhibits, yields, offers, accepts, declines, link_of, asks, same, is, told, said, closed, leaves, home, open_offer}
use Rattle.domain.specs.History.{gain, held, every_id, busy, count}

-- the same reply and messages, and the same event where the reply is 0
pub record Like (a b : Entry) : Type 0 where
  pub reply : a.reply ≡ b.reply
  pub sent : a.sent ≡ b.sent
  pub event : a.reply ≡ 0 → a.event ≡ b.event

-- entry by entry
abbrev pub Alike : History → History → Type 0
Alike (begins s) (begins t) = s ≡ t
Alike (begins s) (b ▹ h) = ⊥
Alike (a ▹ g) (begins t) = ⊥
Alike (a ▹ g) (b ▹ h) = Like a b × Alike g h

-- ---- one entry
module _ {a b : Entry} (l : Like a b) where
  -- what is asked of an event only where it was answered 0
  asked_alike : (f g : Event → Bool) → (eqb a.reply 0 && f a.event && g a.event) ≡ (eqb b.reply 0 && f b.event && g b.event)
  asked_alike f g = go (eqb a.reply 0) refl
    where
      go : (z : Bool) → eqb a.reply 0 ≡ z → (z && f a.event && g a.event) ≡ (eqb b.reply 0 && f b.event && g b.event)
      go true e = rw (← l.reply, e) (ap (λ (x : Event). f x && g x) (l.event (eqb-true a.reply 0 e)))
      go false e = rw (← l.reply, e) refl

  -- what the records say
  pub told_alike : (w : Word) (u k : ℕ) → told a w u k ≡ told b w u k
  unfolding told
  told_alike w u k = rw l.sent refl

  -- what the event says, on a connection
  said_alike : (at : Option ℕ) (w : Word) (u k : ℕ) → said a at w u k ≡ said b at w u k
  unfolding said
  said_alike none w u k = refl
  said_alike (some p) w u k = asked_alike (λ e. eqb (link_of e) p) (λ e. is w u k (asks e))

  -- whether it closes a connection
  closed_alike : (at : Option ℕ) → closed a at ≡ closed b at
  unfolding closed
  closed_alike none = refl
  closed_alike (some p) = asked_alike (λ e. eqb (link_of e) p) (λ e. same closes (asks e).word)

  -- whether a user leaves by it
  leaves_alike : (at : Option ℕ) (u : ℕ) → leaves a at u ≡ leaves b at u
  unfolding leaves
  leaves_alike at u = ap₂ ◌||◌ (said_alike at detaches u 0) (closed_alike at)

-- ---- all of them

-- where a user is attached
pub home_alike : (g h : History) → Alike g h → (u : ℕ) → home g u ≡ home h u
unfolding home
home_alike (begins x) (begins y) s u = ap (λ (z : Start). z.homes u) s
home_alike (begins x) (b ▹ h) s u = absurd s
home_alike (a ▹ g) (begins y) s u = absurd s
home_alike (a ▹ g) (b ▹ h) s u = rw (home_alike g h s.1 u, leaves_alike s.0 (home h u) u, s.0.sent) refl

-- which offers are open
pub offer_alike : (g h : History) → Alike g h → (k r : ℕ) → open_offer g k r ≡ open_offer h k r
unfolding open_offer
offer_alike (begins x) (begins y) s k r = ap (λ (z : Start). z.offered k r) s
offer_alike (begins x) (b ▹ h) s k r = absurd s
offer_alike (a ▹ g) (begins y) s k r = absurd s
offer_alike (a ▹ g) (b ▹ h) s k r =
    let l = s.0 in
    let at = home h r in
    rw (told_alike l offers r k, home_alike g h s.1 r, said_alike l at accepts r k, said_alike l at declines r k, leaves_alike l at r, offer_alike g h s.1 k r) refl

-- how a user came to hold a token
pub gain_alike : (g h : History) → Alike g h → (k u : ℕ) → gain g k u ≡ gain h k u
unfolding gain
gain_alike (begins x) (begins y) s k u = ap (λ (z : Start). z.gains k u) s
gain_alike (begins x) (b ▹ h) s k u = absurd s
gain_alike (a ▹ g) (begins y) s k u = absurd s
gain_alike (a ▹ g) (b ▹ h) s k u =
    let l = s.0 in
    let at = home h u in
    rw (told_alike l grabs u k, told_alike l inhibits u k, told_alike l yields u k, home_alike g h s.1 u)
    (rw (said_alike l at accepts u k, leaves_alike l at u, offer_alike g h s.1 k u, gain_alike g h s.1 k u) refl)

module _ (g h : History) (s : Alike g h) where
  -- whether a token has a holder or an open offer
  pub busy_alike : (k : ℕ) → busy g k ≡ busy h k
  unfolding busy
  busy_alike k = λ i. any (λ (u : ℕ). held (gain_alike g h s k u i) || offer_alike g h s k u i) (below every_id)

  -- how many have
  pub count_alike : count g ≡ count h
  unfolding count
  count_alike = λ i. length (keep (λ (k : ℕ). busy_alike k i) (below every_id))
