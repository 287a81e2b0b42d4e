-- A sweep of the channels: one place as the code stores it, and the table once every place is swept.
use mathlib.Core.Path.{◌≡◌, refl, ap}
use mathlib.Core.List.{List, [], ◌∷◌}
use mathlib.Core.Option.{Option, none, some}
use Prim.Native.Nat.{ℕ, ◌≤◌}
use native.Mathlib.Omega.{arith}
use lib.ListN.{length, get_or, set}
use Rattle.cols_spec.specs.Swept.{Turns, anywhere}
use Rattle.cols_spec.proofs.Sweeps.{turn_ends, turn_stays, Sweeps, sweeps_end}
use Rattle.domain.specs.declared.channel.Channel.{Channel}
use Rattle.domain.specs.Cells.{no_channel}
use Rattle.domain.specs.Tables.{channels_of, channel_cells, end_channel, sweep_channels}

module _ (f : ℕ → Channel → Option Channel) where
  -- one place in use: its channel ends, or stays and is then another
  module _ (j : ℕ) (ids rs cs gs ms ids' rs' cs' gs' ms' : List ℕ) (n : get_or ids j 0 ≡ 0 → ⊥) where
    pub channel_ends : f (get_or ids j 0) (get_or (channel_cells rs cs gs ms) j no_channel) ≡ none
        → channels_of ids' rs' cs' gs' ms' ≡ end_channel (channels_of ids rs cs gs ms) j
        → Turns no_channel (anywhere f) j ids (channel_cells rs cs gs ms) ids' (channel_cells rs' cs' gs' ms')
    unfolding end_channel
    channel_ends e w = rw (ap (λ t. t.ids) w, ap (λ t. t.cells) w) (turn_ends no_channel (anywhere f) j ids (channel_cells rs cs gs ms) n e)

    pub channel_stays : (kept : Channel) → f (get_or ids j 0) (get_or (channel_cells rs cs gs ms) j no_channel) ≡ some kept
        → channel_cells rs' cs' gs' ms' ≡ set (channel_cells rs cs gs ms) j kept
        → Turns no_channel (anywhere f) j ids (channel_cells rs cs gs ms) ids (channel_cells rs' cs' gs' ms')
    channel_stays kept e w = rw w (turn_stays no_channel (anywhere f) j ids (channel_cells rs cs gs ms) n kept e)

  -- all of them
  pub channels_swept : (i : ℕ) (ids₀ rs₀ cs₀ gs₀ ms₀ ids rs cs gs ms : List ℕ)
      → Sweeps no_channel (anywhere f) 128 ids₀ (channel_cells rs₀ cs₀ gs₀ ms₀) i ids (channel_cells rs cs gs ms) → 128 ≤ i
      → channels_of ids rs cs gs ms ≡ sweep_channels f (channels_of ids₀ rs₀ cs₀ gs₀ ms₀)
  unfolding sweep_channels
  channels_swept i ids₀ rs₀ cs₀ gs₀ ms₀ ids rs cs gs ms s h = let e = sweeps_end no_channel (anywhere f) s h in rw (e.0, e.1) refl

-- as many cells as places
pub channel_count : (n : ℕ) (rs cs gs ms : List ℕ) → length rs ≡ n → length cs ≡ n → length gs ≡ n → length ms ≡ n → length (channel_cells rs cs gs ms) ≡ n
unfolding channel_cells
channel_count n [] cs gs ms a b d e = a
channel_count n (r ∷ rs) [] gs ms a b d e = absurd (omega arith)
channel_count n (r ∷ rs) (x ∷ cs) [] ms a b d e = absurd (omega arith)
channel_count n (r ∷ rs) (x ∷ cs) (g ∷ gs) [] a b d e = absurd (omega arith)
channel_count n (r ∷ rs) (x ∷ cs) (g ∷ gs) (m ∷ ms) a b d e = let l = channel_count (length rs) rs cs gs ms refl (omega arith) (omega arith) (omega arith) in omega arith
