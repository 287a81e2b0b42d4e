-- What history says of a user and a token, as one pair: how it holds the token, and whether an offer to it is open; and what one entry makes of it. Assumes nothing.
use Rattle.std.specs.Prelude.{if◌then◌else◌}
use mathlib.Core.Path.{◌≡◌, refl, ap, ◌∙◌}
use mathlib.Core.Bool.{Bool, true, false, not, ◌&&◌, ◌||◌, false≢true, and-false, or-true}
use mathlib.Core.List.{List, [], ◌∷◌}
use mathlib.Core.Option.{Option, none, some}
use Prim.Native.Nat.{ℕ}
use lib.Dec.{eqb}
use borrow.Author.Tests.{eqb-true}
use Rattle.cols_spec.specs.Sets.{any, all, member}
use Rattle.out_records.specs.Records.{Sent, to}
use Rattle.cols_spec.proofs.Bools.{and_parts}
use Rattle.domain.specs.History.{Entry, History, ◌▹◌, Word, attaches, detaches, closes, grabs, inhibits, yields, offers, accepts, declines, full, other, code, unread}
use Rattle.domain.specs.History.{reading, asks, link_of, same, is, told, said, closed, leaves, arrives, home, open_offer, gain, Gain, nothing, by_grab, by_inhibit}
use Rattle.domain.specs.History.{by_offer}

-- a gain by an accepted offer counts as one by a grab
unfoldable pub flat : Gain → Gain
flat nothing = nothing
flat by_grab = by_grab
flat by_inhibit = by_inhibit
flat by_offer = by_grab

-- how a user holds a token, and whether an offer of it to the user is open
abbrev pub Mark : Type 0
Mark = Gain × Bool

-- the mark that history gives
unfoldable pub mark : History → ℕ → ℕ → Mark
mark h k u = (flat (gain h k u), open_offer h k u)

-- what is heard of u and the token: a grab, an inhibit, an acceptance, a refusal, a loss, an offer, a leaving
abbrev pub heard : (a b c n y t l : Bool) → Mark → Mark
heard a b c n y t l m = (
  if a then by_grab else if b then by_inhibit else if c && m.1 then by_grab else if y || l then nothing else m.0,
  if t then true else if c || n || l then false else m.1,
)

flat_gain : (a b c y : Bool) (g : Gain)
    → flat (if a then by_grab else if b then by_inhibit else if c then by_offer else if y then nothing else g)
    ≡ (if a then by_grab else if b then by_inhibit else if c then by_grab else if y then nothing else flat g)
unfolding flat
flat_gain true b c y g = refl
flat_gain false true c y g = refl
flat_gain false false true y g = refl
flat_gain false false false true g = refl
flat_gain false false false false g = refl

-- the mark after an entry, from the mark before it
pub mark_step : (e : Entry) (h : History) (k u : ℕ)
    → mark (e ▹ h) k u ≡ heard (told e grabs u k) (told e inhibits u k) (said e (home h u) accepts u k) (said e (home h u) declines u k)
    (told e yields u k) (told e offers u k) (leaves e (home h u) u) (mark h k u)
unfolding mark gain open_offer
mark_step e h k u =
    ap (λ (g : Gain). (g, open_offer (e ▹ h) k u))
    (flat_gain (told e grabs u k) (told e inhibits u k) (said e (home h u) accepts u k && open_offer h k u) (told e yields u k || leaves e (home h u) u) (gain h k u))

-- ---- records of which history reads nothing

-- a word that changes no mark and no connection; a record with such a word
unfoldable pub mutes : Word → Bool
mutes w = not (same attaches w || same grabs w || same inhibits w || same yields w || same offers w)

unfoldable pub mute : Sent → Bool
mute (to p m) = mutes (reading m).word

-- such a word is none of the five that count
pub hush : (x : Word) → mutes x ≡ true → (same attaches x ≡ false) × (same grabs x ≡ false) × (same inhibits x ≡ false) × (same yields x ≡ false) × (same offers x ≡ false)
unfolding mutes same code
hush attaches e = absurd (false≢true e)
hush detaches e = (refl, refl, refl, refl, refl)
hush closes e = (refl, refl, refl, refl, refl)
hush grabs e = absurd (false≢true e)
hush inhibits e = absurd (false≢true e)
hush yields e = absurd (false≢true e)
hush offers e = absurd (false≢true e)
hush accepts e = (refl, refl, refl, refl, refl)
hush declines e = (refl, refl, refl, refl, refl)
hush full e = (refl, refl, refl, refl, refl)
hush other e = (refl, refl, refl, refl, refl)

-- nothing is told by such records, and nobody arrives
pub told_none : (w : Word) → ((x : Word) → mutes x ≡ true → same w x ≡ false) → (rs : List Sent) → all mute rs ≡ true → (u k : ℕ)
    → any (λ r. elim r [ to p m ↦ is w u k (reading m) ]) rs ≡ false
unfolding any all mute is
told_none w law [] a u k = refl
told_none w law (to p m ∷ rs) a u k =
    rw (law (reading m).word (and_parts (mutes (reading m).word) _ a).0, and-false (eqb k (reading m).token && member u (reading m).users))
    (told_none w law rs (and_parts (mutes (reading m).word) _ a).1 u k)

pub arrives_none : (rs : List Sent) → all mute rs ≡ true → (u : ℕ) (at : Option ℕ) → arrives rs u at ≡ at
unfolding arrives all mute is
arrives_none [] a u at = refl
arrives_none (to p m ∷ rs) a u at =
    rw ((hush (reading m).word (and_parts (mutes (reading m).word) _ a).0).0, and-false (eqb 0 (reading m).token && member u (reading m).users))
    (arrives_none rs (and_parts (mutes (reading m).word) _ a).1 u at)

-- the mark after an entry with such records
pub mark_mute : (e : Entry) (h : History) → all mute e.sent ≡ true → (k u : ℕ)
    → mark (e ▹ h) k u ≡ heard false false (said e (home h u) accepts u k) (said e (home h u) declines u k) false false (leaves e (home h u) u) (mark h k u)
unfolding told
mark_mute e h a k u = mark_step e h k u
    ∙ rw (
      told_none grabs (λ x m. (hush x m).1) e.sent a u k,
      told_none inhibits (λ x m. (hush x m).2) e.sent a u k,
      told_none yields (λ x m. (hush x m).3) e.sent a u k,
      told_none offers (λ x m. (hush x m).4) e.sent a u k,
    )

-- who is not attached does not leave
pub leaves_none : (e : Entry) (u : ℕ) → leaves e none u ≡ false
unfolding leaves said closed
leaves_none e u = refl

-- ---- an entry that asks nothing, or was not answered 0

-- nobody is heard to answer or to leave
unfoldable pub idle : Entry → Bool
idle e = not (eqb e.reply 0) || same other (asks e.event).word

pub idle_reply : (e : Entry) → eqb e.reply 0 ≡ false → idle e ≡ true
unfolding idle
idle_reply e q = rw q

pub idle_unread : (e : Entry) → asks e.event ≡ unread → idle e ≡ true
unfolding idle same code
idle_unread e q = rw q (or-true (not (eqb e.reply 0)))

module _ (e : Entry) (q : idle e ≡ true) where
  pub said_idle : (at : Option ℕ) (w : Word) (u k : ℕ) → same w other ≡ false → said e at w u k ≡ false
  unfolding said is idle same
  said_idle none w u k n = refl
  said_idle (some p) w u k n = go (eqb e.reply 0) q
    where
      go : (b : Bool) → (not b || eqb (code other) (code (asks e.event).word)) ≡ true
          → (b && eqb (link_of e.event) p && (eqb k (asks e.event).token && member u (asks e.event).users && eqb (code w) (code (asks e.event).word))) ≡ false
      go true s = rw (← (eqb-true (code other) (code (asks e.event).word) s), n, and-false (eqb k (asks e.event).token && member u (asks e.event).users)) (and-false (eqb (link_of e.event) p))
      go false s = refl

  pub leaves_idle : (at : Option ℕ) (u : ℕ) → leaves e at u ≡ false
  unfolding leaves closed same code idle
  leaves_idle none u = leaves_none e u
  leaves_idle (some p) u = rw (said_idle (some p) detaches u 0 refl) (go (eqb e.reply 0) q)
    where
      go : (b : Bool) → (not b || eqb 10 (code (asks e.event).word)) ≡ true
          → (b && eqb (link_of e.event) p && eqb 2 (code (asks e.event).word)) ≡ false
      go true s = rw (← (eqb-true 10 (code (asks e.event).word) s)) (and-false (eqb (link_of e.event) p))
      go false s = refl

  module _ (h : History) (a : all mute e.sent ≡ true) where
    -- with such records too, nothing changes
    pub home_silent : (u : ℕ) → home (e ▹ h) u ≡ home h u
    unfolding home
    home_silent u = rw (leaves_idle (home h u) u) (arrives_none e.sent a u (home h u))

    pub mark_silent : (k u : ℕ) → mark (e ▹ h) k u ≡ mark h k u
    unfolding same code
    mark_silent k u = mark_mute e h a k u ∙ rw (said_idle (home h u) accepts u k refl, said_idle (home h u) declines u k refl, leaves_idle (home h u) u)
