-- The machine does the same for any two connections above 15: it refuses both.
use mathlib.Core.Path.{◌≡◌, refl, sym, ap, ◌∙◌}
use mathlib.Core.Logic.{◌⊎◌, ⊎_elim}
use mathlib.Core.List.{List}
use Prim.Native.Nat.{ℕ, ◌<◌}
use borrow.Author.Tests.{lt-ltb}
use Rattle.domain.specs.Tables.{Domain}
use Rattle.domain.specs.Effects.{Settled}
use Rattle.domain.specs.Events.{Reading, opens, loses, hears, stays, step, step_with}
use Rattle.domain.specs.Outcomes.{after, step_settled}

-- one connection stands for the other
abbrev pub Stands : ℕ → ℕ → Type 0
Stands q p = (q ≡ p) ⊎ ((15 < q) × (15 < p))

abbrev refused : Domain → List ℕ → Settled Domain
refused d out = step_settled (stays d 2) out

either : {A : Type 0} (f : (ℕ → A)) (x : A) → ((p : ℕ) → 15 < p → f p ≡ x) → {q p : ℕ} → Stands q p → f q ≡ f p
either f x all = ⊎_elim (λ e. ap f e) (λ w. all _ w.0 ∙ sym (all _ w.1))

pub opens_same : (d : Domain) (out : List ℕ) {q p : ℕ} → Stands q p → after d (opens q) out ≡ after d (opens p) out
unfolding after step step_with
opens_same d out = either (λ p. after d (opens p) out) (refused d out) (λ p h. rw (lt-ltb 15 p h) refl)

pub loses_same : (d : Domain) (out : List ℕ) {q p : ℕ} → Stands q p → after d (loses q) out ≡ after d (loses p) out
unfolding after step step_with
loses_same d out = either (λ p. after d (loses p) out) (refused d out) (λ p h. rw (lt-ltb 15 p h) refl)

pub hears_same : (d : Domain) (m : Reading) (out : List ℕ) {q p : ℕ} → Stands q p → after d (hears q m) out ≡ after d (hears p m) out
unfolding after step step_with
hears_same d m out = either (λ p. after d (hears p m) out) (refused d out) (λ p h. rw (lt-ltb 15 p h) refl)
