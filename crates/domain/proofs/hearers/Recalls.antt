-- The relation between a history and the tables of users and channels: which ids are private channels, their managers, admitted users and marks. What keeps
-- it. Assumes nothing.
use Rattle.std.specs.Prelude.{if◌then◌else◌}
use mathlib.Core.Path.{◌≡◌, refl, ◌∙◌}
use mathlib.Core.Bool.{Bool, true, false, and-false}
use mathlib.Core.List.{List}
use mathlib.Core.Option.{none, some}
use Prim.Native.Nat.{ℕ, ◌≤◌, ◌<◌}
use lib.Dec.{eqb, ltb}
use lib.ListN.{length, get_or}
use Rattle.cols_spec.specs.Sets.{has, all}
use Rattle.cols_spec.specs.Places.{At, find}
use Rattle.out_records.specs.Records.{Sent, records}
use Rattle.domain.specs.declared.channel.Kind.{Kind}
use Rattle.domain.specs.declared.channel.Kind.TheVariants.{Static, User, Private, Assigned}
use Rattle.domain.specs.declared.channel.Channel.{Channel}
use Rattle.domain.specs.Cells.{no_channel, kind}
use Rattle.domain.specs.Tables.{Users, Channels, Domain, link}
use Rattle.domain.specs.Effects.{Effect, ignored, done, from, within}
use Rattle.domain.specs.Events.{Event, Outcome, stays, sends, ends}
use Rattle.domain.specs.History.{Entry, History, ◌▹◌}
use Rattle.domain.specs.Hearers.{convened, link_opened, event_opens, told_joined, admitted}
use Rattle.domain.proofs.invariant.Sound.{Seated}
use Rattle.domain.proofs.invariant.From.{from_by}
use Rattle.domain.proofs.holders.Agrees.{entry}
use Rattle.domain.proofs.hearers.Notices.{hushed, convened_silent, admitted_silent, joined_silent}

-- private channel c with manager g, admitted users adm and marks m: history has its manager, whether each user attached is admitted, and its marks
pub record Recalled (h : History) (us : Users) (c g adm m : ℕ) : Type 0 where
  pub chaired : convened h c ≡ some (get_or us.ids g 0)
  pub guests : (i : ℕ) → Seated us i → admitted h c (get_or us.ids i 0) ≡ has adm i
  pub marks : (q : ℕ) → has m q ≡ true → told_joined h c q ≡ true

-- a channel in use that is not private is none by the history
abbrev pub Told : (h : History) (us : Users) (c : ℕ) (k : Kind) (m : ℕ) → Type 0
Told h us c Static m = convened h c ≡ none
Told h us c User m = convened h c ≡ none
Told h us c (Private g adm) m = Recalled h us c g adm m
Told h us c Assigned m = convened h c ≡ none

-- a row of the channels
abbrev pub Row : (h : History) (us : Users) (j c : ℕ) (ch : Channel) → Type 0
Row h us j c ch = Told h us c (kind ch) ch.marks

-- the history has every channel in use
pub record Recalls (h : History) (us : Users) (cs : Channels) : Type 0 where
  -- no id of a static channel was granted
  pub low : (c : ℕ) → c ≤ 1000 → convened h c ≡ none
  pub rows : (j : ℕ) → 0 < get_or cs.ids j 0 → Row h us j (get_or cs.ids j 0) (get_or cs.cells j no_channel)

-- where the history says the same of a channel and its marks, whatever else it is about
pub told_same : (h h' : History) (us : Users) (c : ℕ) (k : Kind) (m m' : ℕ) → convened h' c ≡ convened h c → ((u : ℕ) → admitted h' c u ≡ admitted h c u)
    → ((q : ℕ) → has m' q ≡ true → (has m q ≡ true → told_joined h c q ≡ true) → told_joined h' c q ≡ true) → Told h us c k m → Told h' us c k m'
told_same h h' us c Static m m' e f g x = e ∙ x
told_same h h' us c User m m' e f g x = e ∙ x
told_same h h' us c (Private b adm) m m' e f g x = record {
  chaired = e ∙ x.chaired;
  guests = λ i s. f (get_or us.ids i 0) ∙ x.guests i s;
  marks = λ q l. g q l (x.marks q);
}
told_same h h' us c Assigned m m' e f g x = e ∙ x

-- ---- an event and its outcome

-- the relation holds after the event
abbrev pub Went : History → Event → Outcome → Type 0
Went h ev o = Recalls (entry ev o ▹ h) o.domain.users o.domain.channels

-- what a request does goes well; one that is ignored leaves nothing to show
abbrev pub Fine : History → Event → Effect Domain → Type 0
Fine h ev ignored = Unit {0}
Fine h ev (done e rs) = Went h ev (record { reply = 0; domain = e; sent = rs })

-- a connection is opened by an opening that is answered 0, and by nothing else
pub not_opened : (e : Entry) → ((q : ℕ) → event_opens e.event q ≡ false) → (q : ℕ) → link_opened e q ≡ false
unfolding link_opened
not_opened e f q = rw (f q) (and-false (eqb e.reply 0))

module _ (h : History) (d : Domain) (a : Recalls h d.users d.channels) (ev : Event) where
  -- an entry of which nothing is heard, and that leaves users and channels alone
  pub quiet : (o : Outcome) → ((q : ℕ) → link_opened (entry ev o) q ≡ false) → all hushed o.sent ≡ true → o.domain.users ≡ d.users → o.domain.channels ≡ d.channels → Went h ev o
  quiet o i m us cs = rw (us, cs) (record {
    low = λ c l. convened_silent (entry ev o) h m c ∙ a.low c l;
    rows = λ j l. told_same h (entry ev o ▹ h) d.users _ (kind (get_or d.channels.cells j no_channel)) _ _
        (convened_silent (entry ev o) h m _) (λ u. admitted_silent (entry ev o) h m _ u) (λ q k x. joined_silent (entry ev o) h m _ q ∙ rw (i q) (x k)) (a.rows j l);
  })

  -- replies 1 to 9: nothing changes
  pub stay : (n : ℕ) → eqb n 0 ≡ false → Went h ev (stays d n)
  unfolding all link_opened
  stay n q = quiet (stays d n) (λ p. rw q) refl refl refl

  -- with room for the records, or with 9
  pub sends_fine : (room : ℕ) (e : Domain) (rs : List Sent) → Went h ev (record { reply = 0; domain = e; sent = rs }) → Went h ev (sends d room 0 e rs)
  unfolding sends
  sends_fine room e rs w = go (ltb room (length (records rs)))
    where
      go : (b : Bool) → Went h ev (if b then stays d 9 else record { reply = 0; domain = e; sent = rs })
      go true = stay 9 refl
      go false = w

  -- a request that is ignored is answered 1
  pub ends_fine : (room : ℕ) (x : Effect Domain) → Fine h ev x → Went h ev (ends d room x)
  unfolding ends
  ends_fine room ignored f = stay 1 refl
  ends_fine room (done e rs) f = sends_fine room e rs f

  -- a request by a user that is attached there, or by none
  pub from_fine : {A : Type 0} (put : (A → Domain)) (p u : ℕ) (f : (ℕ → Effect A))
      → ((i : ℕ) → find d.users.ids u ≡ At i → link d.users i ≡ p → Fine h ev (within put (f i))) → Fine h ev (within put (from d.users p u f))
  unfolding within
  from_fine put p u f w = from_by (λ x. Fine h ev (within put x)) tt d.users p u f w
