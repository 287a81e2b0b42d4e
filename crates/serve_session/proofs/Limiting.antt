-- Limits in range. Assumes nothing.
use mathlib.Core.Path.{◌≡◌, sym, ◌∙◌}
use mathlib.Core.Bool.{Bool, true}
use Prim.Native.Nat.{ℕ, ◌≤◌}
use Rattle.domain.specs.Tables.{in_range}
use Rattle.domain.specs.Outcomes.{limited}
use Rattle.domain.proofs.invariant.Sound.{limits_le}

pub in_range_most : (b : Bool) (channels users tokens : ℕ) → b ≡ in_range (limited channels users tokens) → b ≡ true → (channels ≤ 128) × (users ≤ 64) × (tokens ≤ 64)
in_range_most b channels users tokens e h = limits_le (limited channels users tokens) (sym e ∙ h)
