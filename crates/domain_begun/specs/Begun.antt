-- History that begins with an image (T-02): its users count as attached, holders as by grab (grabbed, giving) or inhibit, offers as open; its marks and admissions
-- count as made there. Read from the image alone.
use Rattle.std.specs.Prelude.{ℕ, ◌≡◌, Bool, false, List, eqb, if◌then◌else◌}
use Rattle.std.proofs.Math.Bool.{So}
use Rattle.std.proofs.Math.Option.{Option, none, some}
use Rattle.cols_spec.specs.Sets.{all, has, member}
use Rattle.codec_table.specs.Named.{Message}
use Rattle.domain.specs.Tables.{Domain}
use Rattle.domain.specs.Good.{Good}
use Rattle.domain.specs.History.{Start, begins, Gain, nothing, by_grab, by_inhibit}
use Rattle.domain.specs.Claims.{Turn, Run, run, now, past, goes, formed, Claims}
use Rattle.domain.specs.Hearers.{Hearing, DataRight}
use Rattle.domain_laws.specs.Same.{Role, static, user_id, assigned, private_of, Standing, nobody, grabbed, inhibited, giving, given}
use Rattle.domain_laws.specs.View.{View, view, pick, or_nobody}
use Rattle.domain_laws.specs.Built.{built, takes}

-- how user u counts as holding a token
unfoldable pub gained : Standing → ℕ → Gain
gained nobody u = nothing
gained (grabbed g) u = if eqb u g then by_grab else nothing
gained (inhibited is) u = if member u is then by_inhibit else nothing
gained (giving g r) u = if eqb u g then by_grab else nothing
gained (given r) u = nothing

-- an offer to user u counts as open
unfoldable pub awaits : Standing → ℕ → Bool
awaits nobody u = false
awaits (grabbed g) u = false
awaits (inhibited is) u = false
awaits (giving g r) u = eqb u r
awaits (given r) u = eqb u r

-- the manager, of a private channel
unfoldable pub chair : Role → Option ℕ
chair static = none
chair user_id = none
chair assigned = none
chair (private_of g is) = some g

-- user u counts as admitted
unfoldable pub invites : Role → ℕ → Bool
invites static u = false
invites user_id u = false
invites assigned u = false
invites (private_of g is) u = member u is

-- the manager of a channel, where it is listed and private
unfoldable pub chaired : Option (Role × ℕ) → Option ℕ
chaired none = none
chaired (some x) = chair x.0

-- user u counts as admitted to a channel
unfoldable pub invited : Option (Role × ℕ) → ℕ → Bool
invited none u = false
invited (some x) u = invites x.0 u

-- connection q counts as told that it is joined to a channel
unfoldable pub listens : Option (Role × ℕ) → ℕ → Bool
listens none q = false
listens (some x) q = has x.1 q

-- what history begins with after an image, by its lists
unfoldable pub begun_by : View → Start
begun_by v = record {
  homes = λ u. pick u v.users;
  gains = λ k u. gained (or_nobody (pick k v.tokens)) u;
  offered = λ k r. awaits (or_nobody (pick k v.tokens)) r;
  managers = λ c. chaired (pick c v.channels);
  guests = λ c u. invited (pick c v.channels) u;
  joins = λ c q. listens (pick c v.channels) q;
}

-- any events, with any rooms, from tables that are read from an image
unfoldable pub from_image : View → List Turn → Run
from_image v ts = goes (run (built v) (begins (begun_by v))) ts

-- demand 3 of every image that is taken
abbrev pub Demand3FromImage : Type 0
Demand3FromImage = (v : View) (ts : List Turn) → So (takes v) → So (all (λ t. formed t.0) ts) → Claims (from_image v ts) v.limits.tokens

-- and of any good tables that say what the image says, at whatever places
abbrev pub Demand3FromTables : Type 0
Demand3FromTables =
    (d : Domain) (v : View) (ts : List Turn) → Good d → view d ≡ v → So (all (λ t. formed t.0) ts)
    → Claims (goes (run d (begins (begun_by v))) ts) v.limits.tokens

-- ---- who could have heard, and with T-01, where data went

-- who could have heard, of every image that is taken
abbrev pub WhoHeardFromImage : Type 0
WhoHeardFromImage =
    (v : View) (ts : List Turn) → So (takes v) → So (all (λ t. formed t.0) ts) → Hearing (past (from_image v ts)) (now (from_image v ts))

-- where data went, of every image that is taken
abbrev pub DataHeardFromImage : (Message → Option ℕ) → Type 0
DataHeardFromImage data_on = (v : View) (ts : List Turn) → So (takes v) → So (all (λ t. formed t.0) ts) → DataRight data_on (past (from_image v ts))

-- who could have heard, of any good tables that say what the image says
abbrev pub WhoHeardFromTables : Type 0
WhoHeardFromTables =
    (d : Domain) (v : View) (ts : List Turn) → Good d → view d ≡ v → So (all (λ t. formed t.0) ts)
    → Hearing (past (goes (run d (begins (begun_by v))) ts)) (now (goes (run d (begins (begun_by v))) ts))

-- where data went, of any good tables that say what the image says
abbrev pub DataHeardFromTables : (Message → Option ℕ) → Type 0
DataHeardFromTables data_on =
    (d : Domain) (v : View) (ts : List Turn) → Good d → view d ≡ v → So (all (λ t. formed t.0) ts)
    → DataRight data_on (past (goes (run d (begins (begun_by v))) ts))
