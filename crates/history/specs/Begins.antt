-- What "every run" is: a claim of a run, from all that it can begin with.
use Rattle.std.specs.Prelude.{ℕ, ◌≡◌, List, []}
use Rattle.codec_octets.specs.Octets.{Bytes}
use Rattle.domain.specs.Tables.{Domain}
use Rattle.domain.specs.History.{Start, nothing_yet}
use Rattle.domain.specs.Good.{Good}
use Rattle.domain_laws.specs.View.{view}
use Rattle.domain_begun.specs.Begun.{begun_by}
use Rattle.domain.specs.Outcomes.{begun}
use Rattle.imaging.specs.Claims.{restored, start_of}
use Rattle.history.specs.Served.{Turn, AllBytewise, Run, run, serves, started, Calls}

-- P is the claim of a run, on what history begins with
module _ (P : (Start → Run → Type 0)) where
  -- from a domain just made, with any limits that `start` takes, any calls with any octets and any rooms: of the run, and of what the public functions did from
  -- the tables that `start` left with reply 0
  abbrev pub FromStart : Type 0
  FromStart =
      (channels users tokens : ℕ) (before : Domain) (ts : List Turn) → AllBytewise ts
      → ((begun channels users tokens before).0 ≡ 0 → P nothing_yet (serves (started channels users tokens before) ts))
      × ((d : Domain) → ◌≡◌ {A = ℕ × Domain} (0, d) (begun channels users tokens before) → (r : Run) → Calls (run d []) ts r → P nothing_yet r)

  -- from any good tables, with what their image says
  abbrev pub FromTables : Type 0
  FromTables = (d : Domain) (ts : List Turn) → Good d → AllBytewise ts → P (begun_by (view d)) (serves (run d []) ts)

  -- from the tables that are read from an image with reply 0, with what its octets say: of the run, and of what the public functions did from there
  abbrev pub FromImage : Type 0
  FromImage =
      (image : List ℕ) (before : Domain) (ts : List Turn) → Bytes image → AllBytewise ts
      → ((restored image before).0 ≡ 0 → P (start_of image) (serves (run (restored image before).1 []) ts))
      × ((d : Domain) → ◌≡◌ {A = ℕ × Domain} (0, d) (restored image before) → (r : Run) → Calls (run d []) ts r → P (start_of image) r)
