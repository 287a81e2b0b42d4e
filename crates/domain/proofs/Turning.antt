-- How the answers of the functions below join to one event: what is sent in a room, connections that are not open, and requests that are settled.
-- Assumes nothing.
use Rattle.std.specs.Prelude.{if◌then◌else◌}
use mathlib.Core.Path.{◌≡◌, refl, sym, ap, ◌∙◌}
use mathlib.Core.Bool.{Bool, true, false, not, ◌||◌}
use mathlib.Core.List.{List, ◌++◌}
use Prim.Native.Nat.{ℕ, ◌≤◌, ◌<◌}
use borrow.Author.Tests.{lt-ltb, le-ltb}
use lib.Dec.{ltb}
use lib.ListN.{length, drop}
use Rattle.cols_spec.specs.Sets.{has, with, connections}
use Rattle.out_records.specs.Records.{Sent, records}
use Rattle.domain.specs.Tables.{Domain, put_links, grant}
use Rattle.domain.specs.Effects.{Effect, ignored, done, settled, delivers, settle}
use Rattle.domain.specs.Leaving.{close}
use Rattle.domain.specs.Events.{Reading, opens, loses, hears, stays, sends as sends_of, ends, answers, step_with, step, Outcome}
use Rattle.domain.specs.Outcomes.{step_settled, after}

pub not_not : (b : Bool) → b ≡ not (not b)
not_not true = refl
not_not false = refl

pub not_true : (b : Bool) → not b ≡ true → b ≡ false
not_true true e = sym e
not_true false e = refl

pub not_false : (b : Bool) → not b ≡ false → b ≡ true
not_false true e = refl
not_false false e = sym e

pub stays_turned : (d : Domain) (n : ℕ) (out : List ℕ) → settled n 0 d out ≡ step_settled (stays d n) out
unfolding step_settled records
stays_turned d n out = refl

pub sends_turned : (d e : Domain) (n : ℕ) (rs : List Sent) (out : List ℕ) → delivers n d e rs out ≡ step_settled (sends_of d (length out) n e rs) out
unfolding delivers sends_of step_settled records
sends_turned d e n rs out = go (ltb (length out) (length (records rs)))
  where
    go : (b : Bool) → (if b then settled 9 0 d out else settled n (length (records rs)) e (records rs ++ drop (length (records rs)) out))
        ≡ step_settled (if b then stays d 9 else record { reply = n; domain = e; sent = rs }) out
    go true = refl
    go false = refl

pub ends_turned : (d : Domain) (x : Effect Domain) (out : List ℕ) → settle d x out ≡ step_settled (ends d (length out) x) out
unfolding settle ends
ends_turned d ignored out = stays_turned d 1 out
ends_turned d (done e rs) out = sends_turned d e 0 rs out

-- a connection that is open, and one that is not; `r` is the code's test
module _ (d : Domain) (p : ℕ) (out : List ℕ) (r : Bool) (is : r ≡ not (ltb 15 p || not (has d.links p))) where
  shut : r ≡ false → (ltb 15 p || not (has d.links p)) ≡ true
  shut h = not_false (ltb 15 p || not (has d.links p)) (sym is ∙ h)

  in_use : r ≡ true → (ltb 15 p || not (has d.links p)) ≡ false
  in_use h = not_true (ltb 15 p || not (has d.links p)) (sym is ∙ h)

  pub shut_loses : r ≡ false → settled 2 0 d out ≡ after d (loses p) out
  unfolding after step step_with
  shut_loses h = rw (shut h) (stays_turned d 2 out)

  pub shut_hears : r ≡ false → (m : Reading) → settled 2 0 d out ≡ after d (hears p m) out
  unfolding after step step_with
  shut_hears h m = rw (shut h) (stays_turned d 2 out)

  pub open_loses : r ≡ true → settle d (close d p) out ≡ after d (loses p) out
  unfolding after step step_with
  open_loses h = rw (in_use h) (ends_turned d (close d p) out)

  -- a reading that ends as a request does, or as a refusal
  pub open_served : r ≡ true → (m : Reading) (x : Effect Domain) → answers (grant d.channels) d p m (length out) ≡ ends d (length out) x
      → settle d x out ≡ after d (hears p m) out
  unfolding after step step_with
  open_served h m x e = rw (in_use h) (ends_turned d x out ∙ ap (λ (o : Outcome). step_settled o out) (sym e))

  pub open_refused : r ≡ true → (m : Reading) (n : ℕ) (rs : List Sent) → answers (grant d.channels) d p m (length out) ≡ sends_of d (length out) n d rs
      → delivers n d d rs out ≡ after d (hears p m) out
  unfolding after step step_with
  open_refused h m n rs e = rw (in_use h) (sends_turned d d n rs out ∙ ap (λ (o : Outcome). step_settled o out) (sym e))

-- p opens
module _ (d : Domain) (m p : ℕ) (out : List ℕ) where
  pub opens_none : 15 < p → settled 2 0 (put_links d m) out ≡ after (put_links d m) (opens p) out
  unfolding after step step_with
  opens_none h = rw (lt-ltb 15 p h) (stays_turned (put_links d m) 2 out)

  pub opens_again : p ≤ 15 → has m p ≡ true → settled 3 0 (put_links d m) out ≡ after (put_links d m) (opens p) out
  unfolding after step step_with
  opens_again h e = rw (le-ltb 15 p h, e) (stays_turned (put_links d m) 3 out)

  pub opens_done : p ≤ 15 → has m p ≡ false → settled 0 0 (put_links d (with connections m p)) out ≡ after (put_links d m) (opens p) out
  unfolding after step step_with step_settled records
  opens_done h e = rw (le-ltb 15 p h, e) refl
