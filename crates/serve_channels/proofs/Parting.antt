-- CLrq: whether p had joined a listed channel, and what becomes of one place. Assumes nothing.
use Rattle.std.specs.Prelude.{if◌then◌else◌}
use mathlib.Core.Path.{◌≡◌, refl, sym, ap, ◌∙◌}
use mathlib.Core.Bool.{Bool, true, false, ◌&&◌, ◌||◌}
use mathlib.Core.List.{List, [], ◌∷◌}
use mathlib.Core.Option.{none, some}
use Prim.Native.Nat.{ℕ}
use lib.Dec.{eqb}
use lib.ListN.{get_or}
use Rattle.std.specs.List.{list_any}
use Rattle.cols_spec.specs.Sets.{any, member, has, without, connections}
use Rattle.cols_spec.specs.Places.{Place, At, Nowhere, find, load}
use Rattle.cols_spec.proofs.Marks.{has_none}
use Rattle.domain.specs.declared.channel.Channel.{Channel}
use Rattle.domain.specs.Cells.{no_channel, kind, with_marks}
use Rattle.domain.specs.Tables.{Channels, Domain, sweep_channels, lapses, narrowed, put_channels, grant}
use Rattle.domain.specs.Effects.{settled, settle}
use Rattle.domain.specs.Channels.{joined, left, leave_channels}
use Rattle.domain.specs.Events.{act}
use Rattle.codec_table.specs.Named.{CLrq}
use Rattle.domain.proofs.Requesting.{on_channels}
use Rattle.domain.proofs.Effects.{delivers_none}

-- ---- had p joined
module _ (cs : Channels) (p c : ℕ) where
  pub joined_at : (j : ℕ) (ch : Channel) (r : Bool) → find cs.ids c ≡ At j → ch ≡ get_or cs.cells j no_channel → r ≡ has ch.marks p → r ≡ joined cs p c
  unfolding joined load
  joined_at j ch r e x h =
      h ∙ ap (λ (a : Channel). has a.marks p) x ∙ sym (ap (λ (w : Place). has (load cs.cells w no_channel).marks p) e)

  pub joined_nowhere : find cs.ids c ≡ Nowhere → false ≡ joined cs p c
  unfolding joined load
  joined_nowhere e = sym (ap (λ (w : Place). has (load cs.cells w no_channel).marks p) e ∙ has_none p)

-- the library's word for it
pub any_is : (f : ℕ → Bool) (xs : List ℕ) → list_any f xs ≡ any f xs
unfolding any
any_is f [] = refl
any_is f (x ∷ xs) = ap (λ (b : Bool). f x || b) (any_is f xs)

-- ---- one place
module _ (p : ℕ) (listed : List ℕ) (c : ℕ) (at : Channel) where
  pub left_other : member c listed ≡ false → left p listed c at ≡ some at
  unfolding left
  left_other e = rw e refl

  -- where the code found the channel ch, without p it has the marks m and ends or not
  module _ (e : member c listed ≡ true) (ch : Channel) (x : ch ≡ at) (m : ℕ) (y : m ≡ without connections ch.marks p) (r : Bool) (z : r ≡ (lapses (kind ch) && eqb m 0)) where
    goes : left p listed c at ≡ (if r then none else some (with_marks ch m))
    unfolding left narrowed
    goes = rw (e, ← x, ← y, ← z) refl

    pub left_ends : r ≡ true → left p listed c at ≡ none
    left_ends t = rw t at goes

    pub left_stays : r ≡ false → left p listed c at ≡ some (record { role = ch.role; chair = ch.chair; guests = ch.guests; marks = m })
    unfolding with_marks
    left_stays t = rw t at goes

-- ---- CLrq
module _ (d : Domain) (p : ℕ) (listed out : List ℕ) where
  pub leave_asked : {n l : ℕ} {o : List ℕ} {cs : Channels} → settled n l cs o ≡ settle d.channels (leave_channels d.channels p listed) out
      → settled n l (put_channels d cs) o ≡ settle d (act (grant d.channels) d p (CLrq listed)) out
  unfolding act
  leave_asked e = on_channels d.limits d.links d.users d.channels d.tokens (grant d.channels) p (CLrq listed) out _ e refl

module _ (cs : Channels) (p : ℕ) (listed out : List ℕ) where
  pub leave_done : true ≡ any (joined cs p) listed → (cs' : Channels) → cs' ≡ sweep_channels (left p listed) cs → settled 0 0 cs' out ≡ settle cs (leave_channels cs p listed) out
  unfolding leave_channels settle
  leave_done h cs' e = rw (← h, e) (delivers_none 0 cs (sweep_channels (left p listed) cs) out)

  pub leave_ignored : false ≡ any (joined cs p) listed → settled 1 0 cs out ≡ settle cs (leave_channels cs p listed) out
  unfolding leave_channels settle
  leave_ignored h = rw (← h) refl
