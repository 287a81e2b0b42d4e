-- Requests that go on with the place of an initiator. Assumes nothing.
use mathlib.Core.Path.{◌≡◌, ap}
use Prim.Native.Nat.{ℕ}
use Rattle.cols_spec.specs.Places.{Place, At, Nowhere}
use Rattle.domain.specs.Tables.{Users, attached}
use Rattle.domain.specs.Effects.{Effect, ignored, from}

module _ {A : Type 0} (us : Users) (p u : ℕ) (act : ℕ → Effect A) where
  pub from_at : (i : ℕ) → attached us p u ≡ At i → from us p u act ≡ act i
  unfolding from
  from_at i e = ap (λ (w : Place). elim w as (λ (_ : Place). Effect A) [ At i ↦ act i | Nowhere ↦ ignored ]) e

  pub from_nobody : attached us p u ≡ Nowhere → from us p u act ≡ ignored
  unfolding from
  from_nobody e = ap (λ (w : Place). elim w as (λ (_ : Place). Effect A) [ At i ↦ act i | Nowhere ↦ ignored ]) e
