-- A claim that holds of the runs holds of what the public functions did; and one that holds from good tables holds from those that were read from an image.
-- Assumes nothing.
use mathlib.Core.Path.{◌≡◌}
use mathlib.Core.List.{List, []}
use Prim.Native.Nat.{ℕ}
use Rattle.domain.specs.Tables.{Domain}
use Rattle.domain.specs.History.{Start, nothing_yet}
use Rattle.domain.specs.Outcomes.{begun}
use Rattle.imaging.specs.Claims.{restored, start_of}
use Rattle.history.specs.Served.{Turn, AllBytewise, Run, run, serves, started}
use Rattle.history.specs.Begins.{FromStart, FromTables, FromImage}
use Rattle.history.proofs.Called.{calls_run, start_calls}
use Rattle.history.proofs.Runs.{read_by, read_zero}

module _ (P : (Start → Run → Type 0)) where
  pub start_by : ((channels users tokens : ℕ) (before : Domain) (ts : List Turn) → (begun channels users tokens before).0 ≡ 0 → AllBytewise ts
      → P nothing_yet (serves (started channels users tokens before) ts)) → FromStart P
  start_by law channels users tokens before ts y = (
    λ z. law channels users tokens before ts z y,
    start_calls (P nothing_yet) channels users tokens before ts (λ z. law channels users tokens before ts z y),
  )

  -- and what holds from good tables holds from those that were read
  pub image_by : FromTables P → FromImage P
  image_by law image before ts b y = (λ z. from_read (restored image before).1 (read_zero image before z), λ d z r c. rw (calls_run c) (from_read d z))
    where
      from_read : (d : Domain) → ◌≡◌ {A = ℕ × Domain} (0, d) (restored image before) → P (start_of image) (serves (run d []) ts)
      from_read d z = read_by (λ s d. P s (serves (run d []) ts)) (λ d g. law d ts g y) image before d b z
