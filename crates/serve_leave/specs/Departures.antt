-- Who leaves, and what comes of it, by the reason for it.
use Rattle.std.specs.Prelude.{ℕ, ◌%◌, List}
use Rattle.domain.specs.Effects.{Effect}
use Rattle.domain.specs.Leaving.{detach, close}
use Rattle.domain.specs.Tables.{Domain}
use Rattle.serve_leave.specs.declared.Departure.{Departure}
use Rattle.serve_leave.specs.declared.Departure.TheVariants.{Closes, Detaches}

-- connection p closes, or those of the listed ids leave that are on p, for a reason from 0 to 7
abbrev pub departs : (d : Domain) (p : ℕ) (departure : Departure) (ids : List ℕ) → Effect Domain
departs d p Closes ids = close d p
departs d p (Detaches reason) ids = detach d p (reason % 8) ids
