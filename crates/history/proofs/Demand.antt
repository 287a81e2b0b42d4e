-- Demand 3 over octets: the four claims of every run of the provider from a domain just made, and of whatever its public functions did. Assumes
-- nothing.
use mathlib.Core.Path.{◌≡◌, refl, sym, ap, ap₂, ◌∙◌}
use mathlib.Core.Bool.{Bool, not, ◌&&◌}
use mathlib.Core.List.{List, [], map}
use Prim.Native.Nat.{ℕ}
use lib.Dec.{leb}
use lib.ListN.{length}
use Rattle.cols_spec.specs.Places.{used}
use Rattle.codec_table.specs.Codec.{Outcome}
use Rattle.codec_table.specs.Named.{Message}
use Rattle.domain.specs.Tables.{Domain}
use Rattle.domain.specs.Events.{Event, hears, reads, step}
use Rattle.domain.specs.Good.{Good}
use Rattle.domain.specs.History.{Start, nothing_yet, History, begins, full, told, held}
use Rattle.domain.specs.Claims.{holder, Run as EventRun, run as event_run, now, past as event_past, goes, from_fresh, SameHolders as event_holders, OnlyHolder as event_only, Counted as event_counted}
use Rattle.domain.specs.Claims.{ToldFull as event_full, Claims as EventClaims}
use Rattle.domain_laws.specs.View.{view}
use Rattle.domain_begun.specs.Begun.{begun_by}
use Rattle.domain.proofs.holders.Demand.{demand as event_demand}
use Rattle.domain_begun.proofs.Begun.{tables_claims as event_tables}
use Rattle.domain.specs.Outcomes.{limited, step_settled as answer_turned, after}
use Rattle.serve_read.specs.Understood.{read_as}
use Rattle.codec_octets.specs.Octets.{Bytes}
use Rattle.imaging.specs.Claims.{restored, start_of}
use Rattle.history.specs.Recorded.{message, read_call}
use Rattle.history.specs.Served.{Turn, AllBytewise, event, Run, run, tables, serves, started}
use Rattle.history.specs.Claims.{past, SameHolders, OnlyHolder, Counted, ToldFull, Claims, OfRuns, OfCalls, Demand3, TablesRuns, ImageRuns, ImageCalls, Demand3FromImage}
use Rattle.history.proofs.Alike.{told_alike, home_alike, gain_alike, busy_alike, count_alike}
use Rattle.history.proofs.AsHeard.{same_event}
use Rattle.history.proofs.Called.{calls_run, start_calls}
use Rattle.history.proofs.Follows.{as_event, all_formed, note_like, Follows}
use Rattle.history.proofs.Runs.{tables_follow, tables_good, limits_right, run_follows, run_good, read_by, read_zero}

-- ---- what the machine's run is known to do, a run that goes with it does
module _ (s : Start) (q : EventRun) (r : Run) (f : Follows s r q) where
  -- the machine's own history
  abbrev known : History
  known = event_past q

  -- (i)
  holders_same : event_holders q → SameHolders s r
  holders_same h k u = ap held (gain_alike (past s r) known f.alike k u) ∙ h k u ∙ ap (λ (d : Domain). holder d k u) (sym f.same_tables)

  -- (ii)
  holder_only : event_only q → OnlyHolder s r
  holder_only h k u v a b = h k u v (rw (gain_alike (past s r) known f.alike k u) at a) (rw (gain_alike (past s r) known f.alike k v) at b)

  -- (iii)
  tokens_counted : (tokens : ℕ) → event_counted q tokens → Counted s r tokens
  tokens_counted tokens h =
      let e = count_alike (past s r) known f.alike in
      (e ∙ h.0 ∙ ap (λ (d : Domain). used d.tokens.ids) (sym f.same_tables), rw e h.1)

  -- (iv), of either request
  full_told : (tokens : ℕ) (request : (ℕ → ℕ → Message)) → Good (tables r) → event_full q tokens request → ToldFull s r tokens request
  unfolding told read_call read_as after answer_turned
  full_told tokens request g h p u k os room b e at z =
      told_alike (note_like r (message p os, room) g b) full u k
      ∙ ap₂ (λ (d : Domain) (x : Event). told (record { event = asked; reply = 0; sent = (step d x (length room)).sent }) full u k) f.same_tables asks
      ∙ h p u k (length room) (sym (home_alike (past s r) known f.alike u) ∙ at) (sym (ap₂ (λ (d : Domain) (x : Event). (step d x (length room)).reply) f.same_tables asks) ∙ z)
      ∙ sym (ap₂ (λ (b : Bool) (n : ℕ). not b && leb tokens n) (busy_alike (past s r) known f.alike k) (count_alike (past s r) known f.alike))
    where
      asked : Event
      asked = hears p (reads (request u k))

      asks : event (message p os) ≡ asked
      asks = sym (same_event (tables r) (message p os) (length room) z) ∙ ap (λ (x : Outcome Message). hears p (read_as os x)) e

  -- all four
  claims_follow : (tokens : ℕ) → Good (tables r) → EventClaims q tokens → Claims s r tokens
  claims_follow tokens g c = (holders_same c.0, holder_only c.1, tokens_counted tokens c.2, full_told tokens _ g c.3, full_told tokens _ g c.4)

-- ---- from what `start` made
module _ (channels users tokens : ℕ) (before : Domain) (ts : List Turn) where
  -- of the run
  runs_claims : OfRuns channels users tokens before ts
  runs_claims z y =
      let l = limited channels users tokens in
      let es = map as_event ts in
      claims_follow nothing_yet (from_fresh l es) (serves (started channels users tokens before) ts) (run_follows channels users tokens before z ts y) tokens
      (run_good channels users tokens before ts z y) (event_demand l es (limits_right channels users tokens before z) (all_formed ts y))

  -- of what was called
  calls_claims : OfCalls channels users tokens before ts
  calls_claims d z y r c = start_calls (λ q. Claims nothing_yet q tokens) channels users tokens before ts (λ w. runs_claims w y) d z r c

-- the whole demand
pub demand : Demand3
demand channels users tokens before ts = (runs_claims channels users tokens before ts, calls_claims channels users tokens before ts)

-- ---- from an image
module _ (ts : List Turn) where
  -- from any good tables
  pub from_tables : TablesRuns ts
  unfolding now view
  from_tables d g y =
      let es = map as_event ts in
      let b = begun_by (view d) in
      let f = tables_follow b d ts g y in
      claims_follow b (goes (event_run d (begins b)) es) (serves (run d []) ts) f d.limits.tokens
      (tables_good d ts g y) (event_tables d (view d) es g refl (all_formed ts y))

  module _ (image : List ℕ) (before : Domain) where
    -- from those that were read
    from_read : (d : Domain) → ◌≡◌ {A = ℕ × Domain} (0, d) (restored image before) → Bytes image → AllBytewise ts → Claims (start_of image) (serves (run d []) ts) d.limits.tokens
    from_read d z b y = read_by (λ s d. Claims s (serves (run d []) ts) d.limits.tokens) (λ d g. from_tables d g y) image before d b z

    -- of the run
    image_runs_claims : ImageRuns ts image before
    image_runs_claims z b y = from_read (restored image before).1 (read_zero image before z) b y

    -- of what was called
    image_calls_claims : ImageCalls ts image before
    image_calls_claims d z b y r c = rw (calls_run c) (from_read d z b y)

-- the whole demand
pub image_demand : Demand3FromImage
image_demand image before ts = (image_runs_claims ts image before, image_calls_claims ts image before)
