-- Who could have heard: what can be read of private channels from events, replies and messages sent alone, and from what history begins with. No table is
-- looked at, but where a claim speaks of one.
use Rattle.std.specs.Prelude.{ℕ, ◌≡◌, Bool, true, false, ◌&&◌, ◌||◌, List, [], ◌∷◌, eqb, if◌then◌else◌}
use Rattle.std.proofs.Math.Bool.{So}
use Rattle.std.proofs.Math.Option.{Option, none, some}
use Rattle.cols_spec.specs.Sets.{all, has, member}
use Rattle.cols_spec.specs.Places.{At, find, found, load}
use Rattle.codec_table.specs.Named.{Message, EDrq, DPum, RJum, AUrq, AUcf, DUrq, DUin, CJrq, CJcf, CLrq, CCrq, CCcf, CDrq, CDin, CArq, CAin, CErq, CEin}
use Rattle.codec_table.specs.Named.{TGrq, TGcf, TIrq, TIcf, TVrq, TVin, TVrs, TVcf, TPrq, TPin, TRrq, TRcf, TTrq, TTcf, successful}
use Rattle.out_records.specs.Records.{Sent, to}
use Rattle.domain.specs.declared.Limits.{Limits}
use Rattle.domain.specs.declared.channel.Kind.{Kind}
use Rattle.domain.specs.declared.channel.Kind.TheVariants.{Static, User, Private, Assigned}
use Rattle.domain.specs.Cells.{no_channel, kind}
use Rattle.domain.specs.Tables.{Users, Domain, name, in_range}
use Rattle.domain.specs.Channels.{joined as marked}
use Rattle.domain.specs.Events.{Event, opens, loses, hears, step}
use Rattle.domain.specs.Good.{Good}
use Rattle.domain.specs.History.{Entry, History, begins, ◌▹◌, home}
use Rattle.domain.specs.Claims.{formed, Turn, now, past, from_fresh}

-- ---- what a message says of users and private channels

-- what is heard in a message
pub data Notice : Type 0 where
  -- a successful AUcf: the user
  comes : ℕ → Notice
  -- a successful CCcf: the channel, and who asked for it
  convenes : ℕ → ℕ → Notice
  -- a successful CJcf: the channel asked for, 0 for a new assigned one, and the channel
  joins : ℕ → ℕ → Notice
  -- CAin, CEin: the channel, and the users named
  admits expels : ℕ → List ℕ → Notice
  -- anything else
  silent : Notice

-- what a successful confirm says; any other says nothing
abbrev pub if_successful : ℕ → Notice → Notice
if_successful n s = if eqb n successful then s else silent

-- what each message says
unfoldable pub notice : Message → Notice
notice (AUcf n none) = silent
notice (AUcf n (some u)) = if_successful n (comes u)
notice (CCcf n u none) = silent
notice (CCcf n u (some c)) = if_successful n (convenes c u)
notice (CJcf n u a none) = silent
notice (CJcf n u a (some c)) = if_successful n (joins a c)
notice (CAin g c us) = admits c us
notice (CEin c us) = expels c us
notice (EDrq h i) = silent
notice (DPum n) = silent
notice (RJum n octets) = silent
notice AUrq = silent
notice (DUrq n us) = silent
notice (DUin n us) = silent
notice (CJrq u c) = silent
notice (CLrq cs) = silent
notice (CCrq u) = silent
notice (CDrq u c) = silent
notice (CDin c) = silent
notice (CArq u c us) = silent
notice (CErq u c us) = silent
notice (TGrq u k) = silent
notice (TGcf n u k s) = silent
notice (TIrq u k) = silent
notice (TIcf n u k s) = silent
notice (TVrq g k r) = silent
notice (TVin g k r) = silent
notice (TVrs n r k) = silent
notice (TVcf n u k s) = silent
notice (TPrq u k) = silent
notice (TPin u k) = silent
notice (TRrq u k) = silent
notice (TRcf n u k s) = silent
notice (TTrq u k) = silent
notice (TTcf u k s) = silent

-- what is known after the messages of an event, from the first to the last; each is heard with the connection that it was sent to
unfoldable pub through : {A : Type 0} (hear : (ℕ → Notice → A → A)) (rs : List Sent) (a : A) → A
through hear [] a = a
through hear (to p m ∷ rs) a = through hear rs (hear p (notice m) a)

-- ---- "its CCcf": the manager of channel c

-- who is known, if anyone, is u
unfoldable pub known_as : Option ℕ → ℕ → Bool
known_as none u = false
known_as (some v) u = eqb v u

-- who asked for c in the last successful CCcf that names it: its manager. The id c is private no longer once it is granted anew, to a user or an assigned channel; and
-- an id that is granted anew is not the manager that it was
unfoldable pub convening : (c p : ℕ) → Notice → Option ℕ → Option ℕ
convening c p (comes u) g = if eqb c u || known_as g u then none else g
convening c p (convenes d u) g = if eqb c d then some u else g
convening c p (joins a d) g = if eqb a 0 && eqb c d then none else g
convening c p (admits d us) g = g
convening c p (expels d us) g = g
convening c p silent g = g

-- the manager of c, where the id c is private by the history
unfoldable pub convened : History → ℕ → Option ℕ
convened (begins s) c = s.managers c
convened (e ▹ h) c = through (convening c) e.sent (convened h c)

-- ---- "was sent a successful CJcf for it since its CCcf", and since the connection opened

-- an event asks to open connection q
unfoldable pub event_opens : Event → ℕ → Bool
event_opens (opens p) q = eqb p q
event_opens (loses p) q = false
event_opens (hears p m) q = false

-- connection q opens: the event was answered 0
unfoldable pub link_opened : Entry → ℕ → Bool
link_opened e q = eqb e.reply 0 && event_opens e.event q

-- a CCcf for c begins anew; a CJcf for c sent to q tells it
unfoldable pub joining : (c q p : ℕ) → Notice → Bool → Bool
joining c q p (comes u) b = b
joining c q p (convenes d u) b = if eqb c d then false else b
joining c q p (joins a d) b = if eqb c d && eqb q p then true else b
joining c q p (admits d us) b = b
joining c q p (expels d us) b = b
joining c q p silent b = b

-- connection q was told that it is joined to c
unfoldable pub told_joined : (h : History) (c q : ℕ) → Bool
told_joined (begins s) c q = s.joins c q
told_joined (e ▹ h) c q = through (joining c q) e.sent (if link_opened e q then false else told_joined h c q)

-- ---- "a user last named there in a CAin, not a CEin", since that CCcf and since the user's AUcf

-- an AUcf for u and a CCcf for c begin anew; a CAin for c that names u admits it, and a CEin expels it
unfoldable pub admitting : (c u p : ℕ) → Notice → Bool → Bool
admitting c u p (comes v) b = if eqb u v then false else b
admitting c u p (convenes d v) b = if eqb c d then false else b
admitting c u p (joins a d) b = b
admitting c u p (admits d us) b = if eqb c d && member u us then true else b
admitting c u p (expels d us) b = if eqb c d && member u us then false else b
admitting c u p silent b = b

-- user u is admitted to c
unfoldable pub admitted : (h : History) (c u : ℕ) → Bool
admitted (begins s) c u = s.guests c u
admitted (e ▹ h) c u = through (admitting c u) e.sent (admitted h c u)

-- ---- who could have heard

-- the manager, or a user admitted
unfoldable pub entitled : (h : History) (c u : ℕ) → Bool
entitled h c u = known_as (convened h c) u || admitted h c u

-- q could have heard c: it was told that it is joined, since the CCcf and since it opened; and it carries the manager, or a user admitted since the CCcf and
-- since its AUcf. This is sharper than T-14's words, which stand below
pub record Hearer (h : History) (c q : ℕ) : Type 0 where
  pub told : told_joined h c q ≡ true
  pub user : ℕ
  pub carried : home h user ≡ some q
  pub may : entitled h c user ≡ true

-- ---- the same in T-14's own words: what came after an opening or an AUcf is not told apart from what came before

-- who asked for c in the last successful CCcf that names it
unfoldable pub last_convening : (c p : ℕ) → Notice → Option ℕ → Option ℕ
last_convening c p (comes u) g = g
last_convening c p (convenes d u) g = if eqb c d then some u else g
last_convening c p (joins a d) g = g
last_convening c p (admits d us) g = g
last_convening c p (expels d us) g = g
last_convening c p silent g = g

-- by the whole history
unfoldable pub last_convened : History → ℕ → Option ℕ
last_convened (begins s) c = s.managers c
last_convened (e ▹ h) c = through (last_convening c) e.sent (last_convened h c)

-- a successful CJcf for c was sent to q since its CCcf
unfoldable pub sent_joined : (h : History) (c q : ℕ) → Bool
sent_joined (begins s) c q = s.joins c q
sent_joined (e ▹ h) c q = through (joining c q) e.sent (sent_joined h c q)

-- a CAin for c that names u, or a CEin
unfoldable pub last_naming : (c u p : ℕ) → Notice → Bool → Bool
last_naming c u p (comes v) b = b
last_naming c u p (convenes d v) b = b
last_naming c u p (joins a d) b = b
last_naming c u p (admits d us) b = if eqb c d && member u us then true else b
last_naming c u p (expels d us) b = if eqb c d && member u us then false else b
last_naming c u p silent b = b

-- u was last named there in a CAin, not a CEin
unfoldable pub last_admitted : (h : History) (c u : ℕ) → Bool
last_admitted (begins s) c u = s.guests c u
last_admitted (e ▹ h) c u = through (last_naming c u) e.sent (last_admitted h c u)

-- q "was sent a successful CJcf for it since its CCcf, and carries the manager or a user last named there in a CAin, not a CEin"
pub record Asked (h : History) (c q : ℕ) : Type 0 where
  pub told : sent_joined h c q ≡ true
  pub user : ℕ
  pub carried : home h user ≡ some q
  pub may : (known_as (last_convened h c) user || last_admitted h c user) ≡ true

-- ---- the table's channels, by their ids

-- the kind of channel c; that of a blank place where there is none
unfoldable pub kind_of : Domain → ℕ → Kind
kind_of d c = kind (load d.channels.cells (find d.channels.ids c) no_channel)

-- is it a private channel
unfoldable pub is_private : Kind → Bool
is_private Static = false
is_private User = false
is_private (Private g adm) = true
is_private Assigned = false

-- the manager's id, of a private channel
unfoldable pub manager : Users → Kind → Option ℕ
manager us Static = none
manager us User = none
manager us (Private g adm) = some (name us g)
manager us Assigned = none

-- is the user at this place admitted
unfoldable pub admits_place : Kind → ℕ → Bool
admits_place Static i = false
admits_place User i = false
admits_place (Private g adm) i = has adm i
admits_place Assigned i = false

-- ---- the claims, of a history and the tables after it

module _ (h : History) (d : Domain) where
  -- "each connection marked on a private channel" could have heard, in the sharper sense
  abbrev pub MarkedHear : Type 0
  MarkedHear = (c q : ℕ) → So (is_private (kind_of d c)) → So (marked d.channels q c) → Hearer h c q

  -- which channels in use are private, and their managers, are read from the history
  abbrev pub SameManagers : Type 0
  SameManagers = (c : ℕ) → So (found (find d.channels.ids c)) → convened h c ≡ manager d.users (kind_of d c)

  -- and so are the users admitted, of those attached
  abbrev pub SameAdmitted : Type 0
  SameAdmitted = (c u i : ℕ) → So (is_private (kind_of d c)) → find d.users.ids u ≡ At i → admitted h c u ≡ admits_place (kind_of d c) i

  -- and in T-14's own words
  abbrev pub MarkedAsked : Type 0
  MarkedAsked = (c q : ℕ) → So (is_private (kind_of d c)) → So (marked d.channels q c) → Asked h c q

  -- all four
  abbrev pub Hearing : Type 0
  Hearing = MarkedHear × SameManagers × SameAdmitted × MarkedAsked

-- any events with any rooms, from a fresh domain
abbrev pub WhoHeard : Type 0
WhoHeard = (l : Limits) (ts : List Turn) → So (in_range l) → So (all (λ t. formed t.0) ts) → Hearing (past (from_fresh l ts)) (now (from_fresh l ts))

-- ---- "With T-01, data on that channel went only to such connections"

-- data on a channel goes to connection q; where the channel is private by the history, to one that could have heard
abbrev pub WentRight : (h : History) (q : ℕ) (on : Option ℕ) → Type 0
WentRight h q none = Unit {0}
WentRight h q (some c) = (g : ℕ) → convened h c ≡ some g → Hearer h c q

-- and by the tables, to one that is marked on the channel
abbrev pub WentMarked : (d : Domain) (q : ℕ) (on : Option ℕ) → Type 0
WentMarked d q none = Unit {0}
WentMarked d q (some c) = So (marked d.channels q c)

-- `data_on` gives the channel of a data message: it is to be that of SDin and USin. No message of the codec is one today
module _ (data_on : (Message → Option ℕ)) where
  -- every data message of a list went right
  abbrev pub AllRight : History → List Sent → Type 0
  AllRight h [] = Unit {0}
  AllRight h (to q m ∷ rs) = WentRight h q (data_on m) × AllRight h rs

  -- in each event, by the history before it
  abbrev pub DataRight : History → Type 0
  DataRight (begins s) = Unit {0}
  DataRight (e ▹ h) = AllRight h e.sent × DataRight h

  -- every data message of a list went to a marked connection
  abbrev pub AllMarked : Domain → List Sent → Type 0
  AllMarked d [] = Unit {0}
  AllMarked d (to q m ∷ rs) = WentMarked d q (data_on m) × AllMarked d rs

  -- what T-01 has to show of the machine: data goes only to connections marked on its channel
  abbrev pub DataMarked : Type 0
  DataMarked = (d : Domain) (e : Event) (room : ℕ) → Good d → So (formed e) → AllMarked d (step d e room).sent

  -- what follows, of every run: "data on that channel went only to such connections"
  abbrev pub DataHeard : Type 0
  DataHeard = (l : Limits) (ts : List Turn) → So (in_range l) → So (all (λ t. formed t.0) ts) → DataRight (past (from_fresh l ts))
