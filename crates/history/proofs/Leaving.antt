-- T-08 over octets: users of one connection leave equal tables, whether they leave in one message or in two. Assumes nothing.
use mathlib.Core.Path.{◌≡◌, refl, sym, ap, ◌∙◌}
use Prim.Native.Nat.{ℕ, ◌≤◌}
use lib.ListN.{length}
use Rattle.codec_table.specs.Messages.{entry, is_served}
use Rattle.codec_table.specs.Named.{DUrq, fields}
use Rattle.domain.specs.Tables.{Domain}
use Rattle.domain.specs.Events.{Reading, Outcome, hears, step}
use Rattle.domain.specs.Good.{Good}
use Rattle.domain.specs.Outcomes.{step_settled, after}
use Rattle.domain_laws.specs.LeavingInTwo.{Report, reported}
use Rattle.domain.proofs.invariant.Invariant.{good_next}
use Rattle.domain_laws.proofs.intwo.Reports.{in_two}
use Rattle.serve_read.proofs.Understanding.{heard_understood}
use Rattle.provider.proofs.Room.{never_9}
use Rattle.history.specs.Served.{event, Run, tables, served, serves}
use Rattle.history.specs.Leaving.{Detaching, on, EqualTables, EqualLeft, WhereRoom, WhereAmple, InTwo, InTwoFromStart, InTwoFromImage}
use Rattle.history.proofs.AsHeard.{event_formed}
use Rattle.history.proofs.Answering.{arrives, good_sized}
use Rattle.history.proofs.Called.{calls_run}
use Rattle.history.proofs.Runs.{tables_good, run_good}
use Rattle.history.proofs.Begins.{start_by, image_by}

-- ---- a call with such octets is a report to the machine
module _ (d : Domain) (p : ℕ) (x : Detaching) where
  -- with the room that it has
  abbrev report : Report
  report = record { reason = x.reason; ids = x.ids; room = length x.room }

  abbrev outcome : Outcome
  outcome = step d (event (on p x).0) (length x.room)

  is_report : outcome ≡ reported d p report
  unfolding event reported is_served entry fields
  is_report = ap (λ (m : Reading). step d (hears p m) (length x.room)) (heard_understood x.octets (DUrq x.reason x.ids) x.read refl)

  -- its tables are good
  report_good : Good d → Good outcome.domain
  report_good g = good_next d g (event (on p x).0) (length x.room) (event_formed (on p x).0 x.bytes)

  -- 17,200 octets are room enough
  never_full : Good d → 17200 ≤ length x.room → outcome.reply ≡ 9 → ⊥
  never_full g h = never_9 d (good_sized d g) (length x.room) h (event (on p x).0) (arrives (on p x).0 x.bytes)

-- ---- of any run whose tables are good
module _ (r : Run) (g : Good (tables r)) (p : ℕ) (whole a b : Detaching) where
  abbrev d : Domain
  d = tables r

  in_room : WhereRoom r p whole a b (EqualTables r p whole a b)
  unfolding serves served tables after step_settled
  in_room both fw fa fab =
      ap (λ (o : Outcome). o.domain) (is_report then_d p b)
      ∙ ap (λ (e : Domain). (reported e p (report e p b)).domain) first
      ∙ in_two d p (report d p whole) (report d p a) (report d p b) g both
      (λ e. fw (ap (λ (o : Outcome). o.reply) (is_report d p whole) ∙ e))
      (λ e. fa (ap (λ (o : Outcome). o.reply) (is_report d p a) ∙ e))
      (λ e. fab (ap (λ (o : Outcome). o.reply) (is_report then_d p b) ∙ ap (λ (e : Domain). (reported e p (report d p b)).reply) first ∙ e))
      ∙ sym (ap (λ (o : Outcome). o.domain) (is_report d p whole))
    where
      then_d : Domain
      then_d = (outcome d p a).domain

      first : then_d ≡ (reported d p (report d p a)).domain
      first = ap (λ (o : Outcome). o.domain) (is_report d p a)

  ample : WhereAmple r p whole a b (EqualTables r p whole a b)
  unfolding served tables after step_settled
  ample both hw ha hb = in_room both (never_full d p whole g hw) (never_full d p a g ha) (never_full (outcome d p a).domain p b (report_good d p a g) hb)

  -- what the public functions did is such a run
  called : EqualTables r p whole a b → EqualLeft r p whole a b
  called e q z c k = ap tables (calls_run c) ∙ e ∙ sym (ap tables (calls_run k))

pub good_in_two : (r : Run) → Good (tables r) → InTwo r
good_in_two r g p whole a b = (
  in_room r g p whole a b,
  ample r g p whole a b,
  λ both fw fa fab. called r g p whole a b (in_room r g p whole a b both fw fa fab),
  λ both hw ha hb. called r g p whole a b (ample r g p whole a b both hw ha hb),
)

-- ---- the tables of every run are good

pub from_start : InTwoFromStart
from_start = start_by (λ s r. InTwo r) (λ channels users tokens before ts z y. good_in_two _ (run_good channels users tokens before ts z y))

pub from_image : InTwoFromImage
from_image = image_by (λ s r. InTwo r) (λ d ts g y. good_in_two _ (tables_good d ts g y))
