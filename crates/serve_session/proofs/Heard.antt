-- A channel's audience. Assumes nothing.
use mathlib.Core.Path.{◌≡◌, sym, ap, ◌∙◌}
use mathlib.Core.List.{List}
use Prim.Native.Nat.{ℕ}
use lib.ListN.{length, get_or}
use Rattle.cols_spec.specs.Sets.{keep, upto, has, listed, connections}
use Rattle.cols_spec.specs.Places.{Place, At, Nowhere, find, load}
use Rattle.domain.specs.declared.channel.Channel.{Channel}
use Rattle.domain.specs.Cells.{no_channel}
use Rattle.domain.specs.Outcomes.{audience}

-- a channel in use, and one that is not
module _ (ids : List ℕ) (cells : List Channel) (c : ℕ) where
  pub audience_at : (j : ℕ) (ch : Channel) (n : ℕ) → find ids c ≡ At j → ch ≡ get_or cells j no_channel → n ≡ length (listed connections ch.marks)
      → n ≡ audience (record { ids = ids; cells = cells }) c
  unfolding audience load
  audience_at j ch n at e h = h ∙ ap (λ (x : Channel). length (listed connections x.marks)) e ∙ ap (λ (q : Place). length (listed connections (load cells q no_channel).marks)) (sym at)

  pub audience_none : find ids c ≡ Nowhere → 0 ≡ audience (record { ids = ids; cells = cells }) c
  unfolding audience load listed keep upto has
  audience_none at = ap (λ (q : Place). length (listed connections (load cells q no_channel).marks)) (sym at)
