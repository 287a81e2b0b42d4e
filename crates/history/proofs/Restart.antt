-- A restart is not noticed: runs from tables that say the same have the same notes. Assumes nothing.
use mathlib.Core.Path.{◌≡◌, refl, sym, ap}
use mathlib.Core.List.{List, [], ◌∷◌}
use Prim.Native.Nat.{ℕ}
use lib.ListN.{length}
use Rattle.domain.specs.Tables.{Domain}
use Rattle.domain.specs.Good.{Good}
use Rattle.domain_laws.specs.Same.{Same}
use Rattle.domain_laws.specs.View.{view}
use Rattle.domain_laws.specs.Built.{built}
use Rattle.domain.specs.Outcomes.{step_settled, after}
use Rattle.domain.proofs.invariant.Invariant.{good_next}
use Rattle.domain_laws.proofs.same.Steps.{steps}
use Rattle.imaging.specs.Image.{image}
use Rattle.imaging.specs.Claims.{restored}
use Rattle.imaging.proofs.Whole.{restart}
use Rattle.history.specs.Recorded.{Note}
use Rattle.history.specs.Served.{Turn, event, AllBytewise, run, tables, notes, noting, served, serves}
use Rattle.history.specs.Restart.{Unnoticed, RestartUnnoticed, CallsUnnoticed}
use Rattle.history.proofs.AsHeard.{event_formed}
use Rattle.history.proofs.Called.{calls_run}

-- what is noted says nothing of the places in the tables
same_notes : (ts : List Turn) (d e : Domain) (ns ms : List Note) → Good d → Good e → Same d e → ns ≡ ms → AllBytewise ts → Unnoticed (serves (run d ns) ts) (serves (run e ms) ts)
unfolding serves served tables notes after step_settled
same_notes [] d e ns ms g h s q y = record { same_notes = q; same_tables = s }
same_notes (t ∷ ts) d e ns ms g h s q y =
    let f = event_formed t.0 y.0 in
    let a = steps d e (event t.0) (length t.1) g h s f in
    same_notes ts _ _ _ _ (good_next d g (event t.0) (length t.1) f) (good_next e h (event t.0) (length t.1) f) a.tables
    (λ i. noting t.0 (step_settled (record { reply = a.reply i; domain = d; sent = a.sent i }) t.1) ∷ q i) y.1

-- so of tables that were written and read again
pub restart_unnoticed : RestartUnnoticed
restart_unnoticed d before ns ts g y =
    let r = restart d before g in (
      ap (λ (x : ℕ × Domain). x.0) r.0,
      rw (ap (λ (x : ℕ × Domain). x.1) r.0) (same_notes ts (built (view d)) d ns ns r.1.good g r.1.same refl y),
    )

-- and so of what was called
pub calls_same : CallsUnnoticed
calls_same d e before ns ts g y z q r a b =
    let is : (restored (image (view d)) before).1 ≡ e = sym (ap (λ (x : ℕ × Domain). x.1) z) in
    rw (calls_run a, calls_run b, ← is) (restart_unnoticed d before ns ts g y).1
