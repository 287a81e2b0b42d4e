-- A run of the provider from a domain just made goes with the machine's run over the same events, and its tables are good. Assumes nothing.
use Rattle.std.specs.Prelude.{if◌then◌else◌}
use mathlib.Core.Path.{◌≡◌, refl, sym, ap, ◌∙◌}
use mathlib.Core.Bool.{Bool, true, false, So}
use mathlib.Core.List.{List, [], map}
use Prim.Native.Nat.{ℕ}
use native.Mathlib.Omega.{arith}
use Rattle.domain.specs.declared.Limits.{Limits}
use Rattle.domain.specs.Tables.{Domain, fresh, in_range}
use Rattle.domain.specs.Good.{Good}
use Rattle.domain.specs.History.{Start, nothing_yet, begins}
use Rattle.domain_laws.specs.View.{view}
use Rattle.domain_begun.specs.Begun.{begun_by}
use Rattle.domain.specs.Claims.{run as event_run, now, goes, from_fresh}
use Rattle.domain.proofs.invariant.Fresh.{fresh_good}
use Rattle.domain.proofs.invariant.Invariant.{good_goes, good_run}
use Rattle.domain_laws.proofs.restored.Taken.{taken}
use Rattle.domain.specs.Outcomes.{limited, begun}
use Rattle.codec_octets.specs.Octets.{Bytes}
use Rattle.imaging.specs.Claims.{restored, start_of}
use Rattle.imaging.proofs.Whole.{reads_zero}
use Rattle.history.specs.Recorded.{read}
use Rattle.history.specs.Served.{Turn, AllBytewise, run, tables, notes, serves, started}
use Rattle.history.specs.Always.{GoodTables, GoodAfterImage}
use Rattle.history.proofs.Follows.{as_event, all_formed, Follows, follows}

-- from any good tables, on anything that history begins with
pub tables_follow : (s : Start) (d : Domain) (ts : List Turn) → Good d → AllBytewise ts → Follows s (serves (run d []) ts) (goes (event_run d (begins s)) (map as_event ts))
unfolding tables notes read
tables_follow s d ts g y = follows s ts (run d []) (begins s) g refl y

-- whose tables stay good
pub tables_good : (d : Domain) (ts : List Turn) → Good d → AllBytewise ts → Good (tables (serves (run d []) ts))
unfolding now
tables_good d ts g y = rw (tables_follow nothing_yet d ts g y).same_tables (good_goes (map as_event ts) (event_run d (begins nothing_yet)) (all_formed ts y) g)

-- from a fresh domain
fresh_follows : (l : Limits) (ts : List Turn) → So (in_range l) → AllBytewise ts → Follows nothing_yet (serves (run (fresh l) []) ts) (from_fresh l (map as_event ts))
unfolding from_fresh
fresh_follows l ts i y = tables_follow nothing_yet (fresh l) ts (fresh_good l i) y

-- `start`, asked for these limits, answers 0
module _ (channels users tokens : ℕ) (before : Domain) (z : (begun channels users tokens before).0 ≡ 0) where
  -- so they are in range, and the domain is fresh
  pub begun_fresh : So (in_range (limited channels users tokens)) × (started channels users tokens before ≡ run (fresh (limited channels users tokens)) [])
  unfolding begun started
  begun_fresh = go (in_range (limited channels users tokens)) refl z
    where
      made : Bool → ℕ × Domain
      made b = if b then (0, fresh (limited channels users tokens)) else (10, before)

      go : (b : Bool) → in_range (limited channels users tokens) ≡ b → (made b).0 ≡ 0
          → (in_range (limited channels users tokens) ≡ true) × (run (made b).1 [] ≡ run (fresh (limited channels users tokens)) [])
      go true e z = (e, refl)
      go false e z = absurd (omega arith)

  -- the limits alone
  pub limits_right : So (in_range (limited channels users tokens))
  limits_right = begun_fresh.0

  module _ (ts : List Turn) (y : AllBytewise ts) where
    -- turn by turn
    pub run_follows : Follows nothing_yet (serves (started channels users tokens before) ts) (from_fresh (limited channels users tokens) (map as_event ts))
    run_follows = rw begun_fresh.1 (fresh_follows (limited channels users tokens) ts limits_right y)

-- the tables of every run are good
pub run_good : (channels users tokens : ℕ) (before : Domain) (ts : List Turn) → GoodTables channels users tokens before ts
run_good channels users tokens before ts z y =
    rw (run_follows channels users tokens before z ts y).same_tables
    (good_run (limited channels users tokens) (map as_event ts) (limits_right channels users tokens before z) (all_formed ts y))

-- ---- from an image

-- what holds from good tables, with what their image says, holds from those that were read, with what the octets say
pub read_by : (P : Start → Domain → Type 0) → ((d : Domain) → Good d → P (begun_by (view d)) d)
    → (image : List ℕ) (before d : Domain) → Bytes image → ◌≡◌ {A = ℕ × Domain} (0, d) (restored image before) → P (start_of image) d
read_by P law image before d b z =
    let r = reads_zero image before d b z in
    let t = taken.0 r.0 r.1.rules in
    let e : view d ≡ r.0 = ap view r.2 ∙ t.1 in
    rw (r.3, ← e) (law d (rw r.2 t.0))

-- as the pair of a reply 0 and the tables that were left
pub read_zero : (image : List ℕ) (before : Domain) → (restored image before).0 ≡ 0 → ◌≡◌ {A = ℕ × Domain} (0, (restored image before).1) (restored image before)
read_zero image before z = λ i. (sym z i, (restored image before).1)

-- tables that were read are good
pub read_good : (image : List ℕ) (before d : Domain) → Bytes image → ◌≡◌ {A = ℕ × Domain} (0, d) (restored image before) → Good d
read_good image before d b z = read_by (λ s d. Good d) (λ d g. g) image before d b z

-- and stay so
pub image_good : (image : List ℕ) (before : Domain) (ts : List Turn) → GoodAfterImage image before ts
image_good image before ts z b y = tables_good (restored image before).1 ts (read_good image before (restored image before).1 b (read_zero image before z)) y
