-- The invariant: every event keeps the tables good, for any free new id from 1001, for the one granted, and so in every run from a fresh domain.
-- Assumes nothing.
use mathlib.Core.Path.{◌≡◌}
use mathlib.Core.Bool.{So}
use mathlib.Core.List.{List, [], ◌∷◌}
use Prim.Native.Nat.{ℕ, ◌≤◌}
use native.Mathlib.Omega.{arith}
use lib.Dec.{ltb}
use lib.ListN.{length}
use Rattle.cols_spec.specs.Sets.{all}
use Rattle.cols_spec.proofs.Bools.{and_parts, and_both}
use Rattle.cols_spec.proofs.Order.{above, keep_le, unused_free}
use Rattle.domain.specs.declared.Limits.{Limits}
use Rattle.domain.specs.Tables.{Domain, fresh, grant, in_range, FreeId}
use Rattle.domain.specs.Events.{Event, step}
use Rattle.domain.specs.Good.{Good}
use Rattle.domain.specs.History.{nothing_yet, begins}
use Rattle.domain.specs.Claims.{formed, GoodStep, Turn, Run, run, now, next_run, goes, from_fresh}
use Rattle.domain.proofs.invariant.Sound.{is_between, free_parts}
use Rattle.domain.proofs.invariant.Kept.{sound_step}
use Rattle.domain.proofs.invariant.Fresh.{fresh_good}
use Rattle.domain.proofs.invariant.GoodIsSound.{good_sound, sound_good}

-- one event, for any free new id from 1001
pub step_good : GoodStep
step_good d new e room g f h =
    let b = free_parts d new h in
    sound_good _ (sound_step d (good_sound d g) new b.0 b.1 b.2 e room f)

-- ---- the id that is granted

module _ (d : Domain) (g : Good d) where
  -- it is free, and from 1001
  pub grant_free : FreeId d (grant d.channels)
  unfolding grant above
  grant_free =
      let l : length d.channels.ids ≡ 128 = (good_sound d g).channels_are.ids_size in
      let k : above 1000 d.channels.ids ≤ length d.channels.ids = keep_le (ltb 1000) d.channels.ids in
      let r = unused_free 128 d.channels.ids 1000 (omega arith) in
      and_both (is_between 1001 65535 _ r.1 (omega (arith, r.2))) (rw r.0)

  -- one event, for that id
  pub good_next : (e : Event) (room : ℕ) → So (formed e) → Good (step d e room).domain
  unfolding step
  good_next e room f = step_good d (grant d.channels) e room g f grant_free

-- what every turn keeps, every run keeps
pub goes_by : (P : (Run → Type 0)) → ((r : Run) (t : Turn) → So (formed t.0) → P r → P (next_run r t)) → (ts : List Turn) (r : Run) → So (all (λ t. formed t.0) ts) → P r → P (goes r ts)
unfolding goes all
goes_by P f [] r h p = p
goes_by P f (t ∷ ts) r h p = let q = and_parts (formed t.0) (all (λ u. formed u.0) ts) h in goes_by P f ts (next_run r t) q.1 (f r t q.0 p)

-- after any formed events, with any rooms, from any good tables
pub good_goes : (ts : List Turn) (r : Run) → So (all (λ t. formed t.0) ts) → Good (now r) → Good (now (goes r ts))
unfolding now next_run
good_goes ts r f g = goes_by (λ r. Good (now r)) (λ r t q g. good_next (now r) g t.0 t.1 q) ts r f g

-- and so from any limits in range
pub good_run : (l : Limits) (ts : List Turn) → So (in_range l) → So (all (λ t. formed t.0) ts) → Good (now (from_fresh l ts))
unfolding from_fresh now
good_run l ts h f = good_goes ts (run (fresh l) (begins nothing_yet)) f (fresh_good l h)
