-- Who could have heard, over octets: histories that say the same name the same managers, admitted users and marks. Assumes nothing.
use mathlib.Core.Path.{◌≡◌, refl, sym, ap, ◌∙◌}
use mathlib.Core.Bool.{Bool, true, false, ◌&&◌}
use mathlib.Core.List.{List, [], ◌∷◌, map}
use mathlib.Core.Option.{Option, none, some}
use Prim.Native.Nat.{ℕ}
use borrow.Author.Tests.{eqb-true}
use lib.Dec.{eqb}
use Rattle.codec_table.specs.Named.{Message}
use Rattle.out_records.specs.Records.{Sent, to}
use Rattle.domain.specs.Tables.{Domain}
use Rattle.domain.specs.Events.{Event}
use Rattle.domain.specs.History.{Entry, Start, nothing_yet, History, begins, ◌▹◌}
use Rattle.domain.specs.Hearers.{WentRight, AllRight, DataRight, DataHeard as event_data}
use Rattle.domain_begun.specs.Begun.{begun_by, DataHeardFromTables as event_tables_data}
use Rattle.domain_laws.specs.View.{view}
use Rattle.domain.specs.Hearers.{convened, event_opens, link_opened, told_joined, admitted, entitled, Hearer, Hearing}
use Rattle.domain.specs.Claims.{Run as EventRun, run as event_run, now, past as event_past, goes, from_fresh}
use Rattle.domain.proofs.hearers.Asked.{hearer_asked}
use Rattle.domain.proofs.hearers.Claimed.{heard}
use Rattle.domain_begun.proofs.Heard.{tables_heard as event_tables}
use Rattle.domain.specs.Outcomes.{limited}
use Rattle.history.specs.Served.{Run, run, serves, started}
use Rattle.history.specs.Claims.{past}
use Rattle.history.specs.Hearers.{Heard, WhoHeard, WhoHeardFromTables, WhoHeardFromImage, HasHeardData, DataHeard, DataHeardFromTables, DataHeardFromImage}
use Rattle.history.proofs.Alike.{Like, Alike, home_alike}
use Rattle.history.proofs.Follows.{as_event, all_formed, Follows}
use Rattle.history.proofs.Runs.{tables_follow, limits_right, run_follows}
use Rattle.history.proofs.Begins.{start_by, image_by}

-- ---- histories that say the same

-- a connection opens by the one where it opens by the other
opened_alike : {a b : Entry} → Like a b → (q : ℕ) → link_opened a q ≡ link_opened b q
unfolding link_opened
opened_alike {a} {b} l q = go (eqb a.reply 0) refl
  where
    go : (z : Bool) → eqb a.reply 0 ≡ z → (z && event_opens a.event q) ≡ (eqb b.reply 0 && event_opens b.event q)
    go true e = rw (← l.reply, e) (ap (λ (x : Event). event_opens x q) (l.event (eqb-true a.reply 0 e)))
    go false e = rw (← l.reply, e) refl

-- its managers
convened_alike : (g h : History) → Alike g h → (c : ℕ) → convened g c ≡ convened h c
unfolding convened
convened_alike (begins x) (begins y) s c = ap (λ (z : Start). z.managers c) s
convened_alike (begins x) (b ▹ h) s c = absurd s
convened_alike (a ▹ g) (begins y) s c = absurd s
convened_alike (a ▹ g) (b ▹ h) s c = rw (convened_alike g h s.1 c, s.0.sent) refl

-- the users admitted
admitted_alike : (g h : History) → Alike g h → (c u : ℕ) → admitted g c u ≡ admitted h c u
unfolding admitted
admitted_alike (begins x) (begins y) s c u = ap (λ (z : Start). z.guests c u) s
admitted_alike (begins x) (b ▹ h) s c u = absurd s
admitted_alike (a ▹ g) (begins y) s c u = absurd s
admitted_alike (a ▹ g) (b ▹ h) s c u = rw (admitted_alike g h s.1 c u, s.0.sent) refl

-- who was told that it is joined
joined_alike : (g h : History) → Alike g h → (c q : ℕ) → told_joined g c q ≡ told_joined h c q
unfolding told_joined
joined_alike (begins x) (begins y) s c q = ap (λ (z : Start). z.joins c q) s
joined_alike (begins x) (b ▹ h) s c q = absurd s
joined_alike (a ▹ g) (begins y) s c q = absurd s
joined_alike (a ▹ g) (b ▹ h) s c q = rw (joined_alike g h s.1 c q, opened_alike s.0 q, s.0.sent) refl

module _ (g h : History) (s : Alike g h) where
  -- who could have heard by the one could have heard by the other
  hearer_alike : (c q : ℕ) → Hearer h c q → Hearer g c q
  unfolding entitled
  hearer_alike c q x = record {
    told = joined_alike g h s c q ∙ x.told;
    user = x.user;
    carried = home_alike g h s x.user ∙ x.carried;
    may = rw (convened_alike g h s c, admitted_alike g h s c x.user) x.may;
  }

  -- so the claims of the one are those of the other
  hearing_alike : (d : Domain) → Hearing h d → Hearing g d
  hearing_alike d x = (
    λ c q p m. hearer_alike c q (x.0 c q p m),
    λ c f. convened_alike g h s c ∙ x.1 c f,
    λ c u i p f. admitted_alike g h s c u ∙ x.2 c u i p f,
    λ c q p m. hearer_asked g c q (hearer_alike c q (x.0 c q p m)),
  )

-- what the machine's run is known to do, a run that goes with it does
heard_follow : (s : Start) (q : EventRun) (r : Run) → Follows s r q → Hearing (event_past q) (now q) → Heard s r
heard_follow s q r f x = rw f.same_tables (hearing_alike (past s r) (event_past q) f.alike (now q) x)

-- ---- the claims

-- from what `start` made
pub all_heard : WhoHeard
all_heard = start_by Heard (λ channels users tokens before ts z y.
    let l = limited channels users tokens in
    let es = map as_event ts in
    heard_follow nothing_yet (from_fresh l es) (serves (started channels users tokens before) ts) (run_follows channels users tokens before z ts y)
    (heard l es (limits_right channels users tokens before z) (all_formed ts y)))

-- from any good tables
pub tables_heard : WhoHeardFromTables
tables_heard d ts g y =
    let es = map as_event ts in
    let b = begun_by (view d) in
    heard_follow b (goes (event_run d (begins b)) es) (serves (run d []) ts) (tables_follow b d ts g y) (event_tables d (view d) es g refl (all_formed ts y))

-- from an image
pub image_heard : WhoHeardFromImage
image_heard = image_by Heard tables_heard

-- ---- data

module _ (data_on : (Message → Option ℕ)) where
  -- data that went right by the one went right by the other
  all_alike : (g h : History) → Alike g h → (rs : List Sent) → AllRight data_on h rs → AllRight data_on g rs
  all_alike g h s [] x = tt
  all_alike g h s (to q m ∷ rs) x = (go (data_on m) x.0, all_alike g h s rs x.1)
    where
      go : (on : Option ℕ) → WentRight h q on → WentRight g q on
      go none y = tt
      go (some c) y = λ v e. hearer_alike g h s c q (y v (sym (convened_alike g h s c) ∙ e))

  -- entry by entry
  right_alike : (g h : History) → Alike g h → DataRight data_on h → DataRight data_on g
  right_alike (begins x) (begins y) s z = tt
  right_alike (begins x) (b ▹ h) s z = absurd s
  right_alike (a ▹ g) (begins y) s x = absurd s
  right_alike (a ▹ g) (b ▹ h) s x = (rw s.0.sent (all_alike g h s.1 b.sent x.0), right_alike g h s.1 x.1)

  -- from the same of messages: from what `start` made
  pub data_octets : event_data data_on → DataHeard data_on
  data_octets law = start_by (HasHeardData data_on) (λ channels users tokens before ts z y.
      let l = limited channels users tokens in
      let es = map as_event ts in
      right_alike (past nothing_yet (serves (started channels users tokens before) ts)) (event_past (from_fresh l es)) (run_follows channels users tokens before z ts y).alike
      (law l es (limits_right channels users tokens before z) (all_formed ts y)))

  -- from any good tables
  pub data_tables : event_tables_data data_on → DataHeardFromTables data_on
  data_tables law d ts g y =
      let es = map as_event ts in
      let b = begun_by (view d) in
      right_alike (past b (serves (run d []) ts)) (event_past (goes (event_run d (begins b)) es)) (tables_follow b d ts g y).alike (law d (view d) es g refl (all_formed ts y))

  -- from an image
  pub data_image : event_tables_data data_on → DataHeardFromImage data_on
  data_image law = image_by (HasHeardData data_on) (data_tables law)
