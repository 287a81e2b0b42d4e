-- What becomes of a channel by the test of its role, what becomes of its place, and where the sweep of the table starts.
use Rattle.std.specs.Prelude.{if◌then◌else◌}
use mathlib.Core.Path.{◌≡◌, refl, ap, ap₂, ◌∙◌}
use mathlib.Core.Bool.{Bool, true, false}
use mathlib.Core.List.{List}
use mathlib.Core.Option.{Option, none, some}
use Prim.Native.Nat.{ℕ, ◌<◌}
use native.Mathlib.Omega.{arith}
use borrow.Author.Tests.{eqb-true, ne_eqb}
use lib.Dec.{eqb}
use lib.ListN.{length, get_or, set}
use lib.Seq.{set-get_or}
use Rattle.cols_spec.specs.Sets.{member, has, meet, connections}
use Rattle.cols_spec.specs.Swept.{Turns, anywhere}
use Rattle.cols_spec.proofs.Sweeps.{Sweeps, sweeps_start}
use Rattle.domain.specs.declared.channel.Channel.{Channel}
use Rattle.domain.specs.Cells.{no_channel, kind, with_marks, with_guests}
use Rattle.domain.specs.Tables.{Users, channels_of, channel_cells, end_channel, lapses, narrowed}
use Rattle.domain.specs.Channels.{private_marks}
use Rattle.domain.proofs.CellLaws.{channel, channel_at, channel_set}
use Rattle.domain_tables.proofs.ChannelSweeps.{channel_ends, channel_stays, channel_count}
use Rattle.serve_leave_tables.specs.Fates.{fate_listed, fate_by, ends_by, guests_left, marks_left}

-- ---- one channel: it ends where the test says so, and else has what is left of it
module _ (us : Users) (list : List ℕ) (gone live c role chair guests marks m : ℕ) (e : m ≡ meet connections marks live) where
  abbrev kept : Channel
  kept = channel role chair (guests_left role guests gone) (marks_left us role chair (guests_left role guests gone) m)

  abbrev Fated : Type 0
  Fated = fate_by us list gone live c (channel role chair guests marks) ≡ (if ends_by role chair (member c list) gone m then none else some kept)

  fated_user : eqb role 2 ≡ true → eqb role 3 ≡ false → Fated
  unfolding fate_by fate_listed kind narrowed lapses with_marks ends_by guests_left marks_left
  fated_user a b = go (member c list) refl
    where
      go : (l : Bool) → member c list ≡ l → Fated
      go true q = rw (a, b, q) refl
      go false q = rw (a, b, q, a, e) refl

  fated_private : eqb role 2 ≡ false → eqb role 3 ≡ true → Fated
  unfolding fate_by fate_listed kind private_marks with_guests ends_by guests_left marks_left
  fated_private a b = go (has gone chair) refl
    where
      go : (h : Bool) → has gone chair ≡ h → Fated
      go true q = rw (a, b, q) refl
      go false q = rw (a, b, q, e) refl

  fated_other : eqb role 2 ≡ false → eqb role 3 ≡ false → Fated
  unfolding fate_by fate_listed kind narrowed lapses with_marks ends_by guests_left marks_left
  fated_other a b = go (eqb role 4) refl
    where
      go : (q : Bool) → eqb role 4 ≡ q → Fated
      go true q = rw (a, b, q, a, b, q, e) refl
      go false q = rw (a, b, q, a, b, q, e) refl

  fated : Fated
  fated = go (eqb role 2) (eqb role 3) refl refl
    where
      go : (a b : Bool) → eqb role 2 ≡ a → eqb role 3 ≡ b → Fated
      go true b p q = fated_user p (ne_eqb role 3 (λ z. omega (arith, eqb-true role 2 p)))
      go false true p q = fated_private p q
      go false false p q = fated_other p q

-- whether the id is listed is asked of a user's channel, role 2, alone
ends_alike : (role chair : ℕ) (a b : Bool) (gone m : ℕ) → (role ≡ 2 → a ≡ b) → ends_by role chair a gone m ≡ ends_by role chair b gone m
unfolding ends_by
ends_alike role chair a b gone m l = go (eqb role 2) refl
  where
    go : (q : Bool) → eqb role 2 ≡ q → ends_by role chair a gone m ≡ ends_by role chair b gone m
    go true q = rw (l (eqb-true role 2 q)) refl
    go false q = rw q refl

-- ---- its place, as the code stores it
module _ (us : Users) (list : List ℕ) (gone live j : ℕ) (ids rs cs gs ms : List ℕ) (n : get_or ids j 0 ≡ 0 → ⊥)
    (a : j < length rs) (b : j < length cs) (d : j < length gs) (f : j < length ms) (m : ℕ) (e : m ≡ meet connections (get_or ms j 0) live)
    (listed ends : Bool) (l : get_or rs j 0 ≡ 2 → listed ≡ member (get_or ids j 0) list) (t : ends ≡ ends_by (get_or rs j 0) (get_or cs j 0) listed gone m) where
  -- what is left: the admitted and the connections
  abbrev admitted : ℕ
  admitted = guests_left (get_or rs j 0) (get_or gs j 0) gone

  abbrev joined : ℕ
  joined = marks_left us (get_or rs j 0) (get_or cs j 0) admitted m

  here : fate_by us list gone live (get_or ids j 0) (get_or (channel_cells rs cs gs ms) j no_channel)
      ≡ (if ends then none else some (channel (get_or rs j 0) (get_or cs j 0) admitted joined))
  here = ap (fate_by us list gone live (get_or ids j 0)) (channel_at rs cs gs ms j a b d f) ∙ rw (t, ends_alike (get_or rs j 0) (get_or cs j 0) listed (member (get_or ids j 0) list) gone m l) (fated us list gone live (get_or ids j 0) (get_or rs j 0) (get_or cs j 0) (get_or gs j 0) (get_or ms j 0) m e)

  stored : channel_cells rs cs (set gs j admitted) (set ms j joined) ≡ set (channel_cells rs cs gs ms) j (channel (get_or rs j 0) (get_or cs j 0) admitted joined)
  stored = rw (set-get_or rs j 0, set-get_or cs j 0) at (channel_set rs cs gs ms j (get_or rs j 0) (get_or cs j 0) admitted joined)

  pub place_ends : (ids' rs' cs' gs' ms' : List ℕ) → ends ≡ true → channels_of ids' rs' cs' gs' ms' ≡ end_channel (channels_of ids rs cs gs ms) j
      → Turns no_channel (anywhere (fate_by us list gone live)) j ids (channel_cells rs cs gs ms) ids' (channel_cells rs' cs' gs' ms')
  place_ends ids' rs' cs' gs' ms' r w = channel_ends (fate_by us list gone live) j ids rs cs gs ms ids' rs' cs' gs' ms' n (here ∙ rw r refl) w

  pub place_stays : (gs' ms' : List ℕ) → ends ≡ false → (gs' ≡ set gs j admitted) × (ms' ≡ set ms j joined)
      → Turns no_channel (anywhere (fate_by us list gone live)) j ids (channel_cells rs cs gs ms) ids (channel_cells rs cs gs' ms')
  place_stays gs' ms' r w =
      channel_stays (fate_by us list gone live) j ids rs cs gs ms ids rs cs gs' ms' n (channel (get_or rs j 0) (get_or cs j 0) admitted joined) (here ∙ rw r refl) (ap₂ (channel_cells rs cs) w.0 w.1 ∙ stored)

-- ---- all of them
pub channels_start : (f : ℕ → Channel → Option Channel) (ids rs cs gs ms : List ℕ) → length ids ≡ 128 → length rs ≡ 128 → length cs ≡ 128 → length gs ≡ 128 → length ms ≡ 128
    → Sweeps no_channel (anywhere f) 128 ids (channel_cells rs cs gs ms) 0 ids (channel_cells rs cs gs ms)
channels_start f ids rs cs gs ms a b d e g = sweeps_start no_channel (anywhere f) 128 ids (channel_cells rs cs gs ms) a (channel_count 128 rs cs gs ms b d e g)
