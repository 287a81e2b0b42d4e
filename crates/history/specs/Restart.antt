-- T-02: a restart is not noticed. What is noted of a run that goes on after its tables were written to an image and read back is what would have been noted without.
use Rattle.std.specs.Prelude.{ℕ, ◌≡◌, List}
use Rattle.domain.specs.Tables.{Domain}
use Rattle.domain.specs.Good.{Good}
use Rattle.domain_laws.specs.Same.{Same}
use Rattle.domain_laws.specs.View.{view}
use Rattle.imaging.specs.Image.{image}
use Rattle.imaging.specs.Claims.{restored}
use Rattle.history.specs.Recorded.{Note}
use Rattle.history.specs.Served.{Turn, AllBytewise, Run, run, tables, notes, serves, Calls}

-- two runs with the same notes, and tables that say the same
pub record Unnoticed (q r : Run) : Type 0 where
  pub same_notes : notes q ≡ notes r
  pub same_tables : Same (tables q) (tables r)

-- any good tables d, stopped and started again with whatever stood there before, and any calls from then on
abbrev pub RestartUnnoticed : Type 0
RestartUnnoticed =
    (d before : Domain) (ns : List Note) (ts : List Turn) → Good d → AllBytewise ts
    → ((restored (image (view d)) before).0 ≡ 0) × Unnoticed (serves (run (restored (image (view d)) before).1 ns) ts) (serves (run d ns) ts)

-- the same of what the public functions did, from the tables that reading left with reply 0 and from those that were not stopped
abbrev pub CallsUnnoticed : Type 0
CallsUnnoticed =
    (d e before : Domain) (ns : List Note) (ts : List Turn) → Good d → AllBytewise ts → ◌≡◌ {A = ℕ × Domain} (0, e) (restored (image (view d)) before)
    → (q r : Run) → Calls (run e ns) ts q → Calls (run d ns) ts r → Unnoticed q r
