-- Who could have heard: the claims of every run from a fresh domain, and of every run from tables and a history that agree. Assumes nothing.
use mathlib.Core.Path.{◌≡◌, refl, sym, ap, ◌∙◌}
use mathlib.Core.Bool.{Bool, true, So, false≢true, or-true}
use mathlib.Core.List.{List, [], ◌∷◌}
use mathlib.Core.Option.{Option, none, some}
use Prim.Native.Nat.{ℕ, zero, suc, ◌<◌}
use native.Mathlib.Omega.{arith}
use lib.ListN.{get_or, replicate}
use borrow.Author.Tests.{eq-eqb}
use Rattle.cols_spec.specs.Sets.{has, with, all, seats}
use Rattle.cols_spec.specs.Places.{Place, At, Nowhere, find, found, load}
use Rattle.cols_spec.proofs.Bools.{and_parts, none≢some}
use Rattle.cols_spec.proofs.Marks.{has_none, in_with}
use Rattle.cols_spec.proofs.Rows.{find_holds, find_there, in_list, get_d_any}
use Rattle.codec_table.specs.Named.{Message}
use Rattle.out_records.specs.Records.{Sent, to}
use Rattle.domain.specs.declared.Limits.{Limits}
use Rattle.domain.specs.declared.channel.Kind.{Kind}
use Rattle.domain.specs.declared.channel.Kind.TheVariants.{Static, User, Private, Assigned}
use Rattle.domain.specs.Cells.{no_channel, kind}
use Rattle.domain.specs.Tables.{Users, Domain, fresh, name, link, grant, in_range}
use Rattle.domain.specs.Channels.{joined as marked}
use Rattle.domain.specs.Events.{step, step_with}
use Rattle.domain.specs.History.{nothing_yet, History, begins, home}
use Rattle.domain.specs.Claims.{formed, Turn, Run, run, now, past, next_run, goes, from_fresh}
use Rattle.domain.specs.Hearers.{known_as, convened, admitted, entitled, Hearer, kind_of, is_private, manager, admits_place, MarkedHear, SameManagers, SameAdmitted, Hearing, WhoHeard}
use Rattle.domain.specs.Hearers.{WentRight, WentMarked, AllRight, DataRight, AllMarked, DataMarked, DataHeard}
use Rattle.domain.specs.Tables.{seen}
use Rattle.domain.proofs.Answering.{Passes, step_all}
use Rattle.domain.proofs.invariant.Sound.{Seated, Host, Sort, Sound}
use Rattle.domain.proofs.invariant.GoodIsSound.{good_sound}
use Rattle.domain.proofs.invariant.Invariant.{grant_free, goes_by}
use Rattle.domain.proofs.holders.Demand.{Faithful, faithful_turned, faithful_fresh}
use Rattle.domain.proofs.hearers.Recalls.{Recalled, Told, Recalls}
use Rattle.domain.proofs.hearers.Following.{recalls_step}
use Rattle.domain.proofs.hearers.Asked.{hearer_asked}

-- ---- of one moment

module _ (h : History) (d : Domain) (s : Sound d) (homes : (u : ℕ) → home h u ≡ seen (find d.users.ids u) none (λ i. some (link d.users i))) (a : Recalls h d.users d.channels) where
  abbrev us : Users
  us = d.users

  -- the connection of a user is known
  home_at : (i : ℕ) → Seated us i → home h (get_or us.ids i 0) ≡ some (get_or us.at i 0)
  unfolding link
  home_at i l =
      homes (get_or us.ids i 0)
      ∙ rw (find_there us.ids s.users_are.apart i l)
      (ap some (get_d_any us.at i 16 0 (omega (arith, in_list us.ids i l, s.users_are.ids_size, s.users_are.cells_size))))

  -- one of those who may hear is on a connection that is marked
  hearer : (c g adm m q : ℕ) → Sort us c (Private g adm) m → Recalled h us c g adm m → has m q ≡ true → Hearer h c q
  unfolding entitled known_as
  hearer c g adm m q x r l = record {
    told = r.marks q l;
    user = u;
    carried = home_at o.place seated ∙ ap some o.there;
    may = in_with 64 adm o.place g o.in_mask (λ b. rw (r.guests o.place seated, b) (or-true (known_as (convened h c) u)))
        (λ e. rw (r.chaired, eq-eqb (get_or us.ids g 0) u (ap (λ (n : ℕ). get_or us.ids n 0) (sym e))));
  }
    where
      o : Host us (with seats adm g) q
      o = x.2.marks.are q l

      u : ℕ
      u = get_or us.ids o.place 0

      seated : Seated us o.place
      seated = in_with 64 adm o.place g o.in_mask (x.2.admitted.are o.place) (λ e. rw e x.2.manager)

  -- a channel in use: its rules, and what the history has of it
  row : (c j : ℕ) → find d.channels.ids c ≡ At j
      → let ch = get_or d.channels.cells j no_channel in Sort us c (kind ch) ch.marks × Told h us c (kind ch) ch.marks
  row c j e =
      let r = find_holds d.channels.ids c j e in
      let used : 0 < get_or d.channels.ids j 0 = rw r.0 r.2 in
      (rw r.0 at (s.channels_are.rows j used).sort, rw r.0 at (a.rows j used))

  -- marks, by the kind of each channel
  marks_hear : MarkedHear h d
  unfolding kind_of marked load kind is_private
  marks_hear c q = go (find d.channels.ids c) refl
    where
      by_kind : (k : Kind) (m : ℕ) → Sort us c k m × Told h us c k m → So (is_private k) → has m q ≡ true → Hearer h c q
      by_kind Static m r p l = absurd (false≢true p)
      by_kind User m r p l = absurd (false≢true p)
      by_kind (Private g adm) m r p l = hearer c g adm m q r.0 r.1 l
      by_kind Assigned m r p l = absurd (false≢true p)

      go : (w : Place) → find d.channels.ids c ≡ w → So (is_private (kind (load d.channels.cells w no_channel))) → So (has (load d.channels.cells w no_channel).marks q) → Hearer h c q
      go (At j) e p l = by_kind (kind (get_or d.channels.cells j no_channel)) (get_or d.channels.cells j no_channel).marks (row c j e) p l
      go Nowhere e p l = absurd (false≢true p)

  -- managers, by the kind of each channel
  managers_same : SameManagers h d
  unfolding kind_of load found manager name
  managers_same c = go (find d.channels.ids c) refl
    where
      by_kind : (k : Kind) (m : ℕ) → Told h us c k m → convened h c ≡ manager us k
      by_kind Static m t = t
      by_kind User m t = t
      by_kind (Private g adm) m t = t.chaired
      by_kind Assigned m t = t

      go : (w : Place) → find d.channels.ids c ≡ w → So (found w) → convened h c ≡ manager us (kind (load d.channels.cells w no_channel))
      go (At j) e f = by_kind (kind (get_or d.channels.cells j no_channel)) (get_or d.channels.cells j no_channel).marks (row c j e).1
      go Nowhere e f = absurd (false≢true f)

  -- users admitted, by the kind of each channel
  admitted_same : SameAdmitted h d
  unfolding kind_of load kind is_private admits_place
  admitted_same c u i p f = go (find d.channels.ids c) refl p
    where
      by_kind : (k : Kind) (m : ℕ) → Told h us c k m → So (is_private k) → admitted h c u ≡ admits_place k i
      by_kind Static m t p = absurd (false≢true p)
      by_kind User m t p = absurd (false≢true p)
      by_kind (Private g adm) m t p = let r = find_holds us.ids u i f in rw r.0 at (t.guests i (rw r.0 r.2))
      by_kind Assigned m t p = absurd (false≢true p)

      go : (w : Place) → find d.channels.ids c ≡ w → So (is_private (kind (load d.channels.cells w no_channel))) → admitted h c u ≡ admits_place (kind (load d.channels.cells w no_channel)) i
      go (At j) e p = by_kind (kind (get_or d.channels.cells j no_channel)) (get_or d.channels.cells j no_channel).marks (row c j e).1 p
      go Nowhere e p = absurd (false≢true p)

  -- a channel that has marks, and that the history has as private, is private
  marked_private : (c q g : ℕ) → So (marked d.channels q c) → convened h c ≡ some g → So (is_private (kind_of d c))
  unfolding kind_of marked load is_private
  marked_private c q g m f = go (find d.channels.ids c) refl m
    where
      by_kind : (k : Kind) (m : ℕ) → Told h us c k m → So (is_private k)
      by_kind Static m t = absurd (none≢some (sym t ∙ f))
      by_kind User m t = absurd (none≢some (sym t ∙ f))
      by_kind (Private g adm) m t = refl
      by_kind Assigned m t = absurd (none≢some (sym t ∙ f))

      go : (w : Place) → find d.channels.ids c ≡ w → So (has (load d.channels.cells w no_channel).marks q) → So (is_private (kind (load d.channels.cells w no_channel)))
      go (At j) e l = by_kind (kind (get_or d.channels.cells j no_channel)) (get_or d.channels.cells j no_channel).marks (row c j e).1
      go Nowhere e l = absurd (false≢true (sym (has_none q) ∙ l))

  -- so its marks are of those who may hear, by the history alone
  private_hear : (c q g : ℕ) → So (marked d.channels q c) → convened h c ≡ some g → Hearer h c q
  private_hear c q g m f = marks_hear c q (marked_private c q g m f) m

-- ---- of a run

-- good tables, whose users, holders and private channels the history has
pub record Trusted (l : Limits) (r : Run) : Type 0 where
  pub faithful : Faithful l r
  pub recalls : Recalls (past r) (now r).users (now r).channels

-- one event more
trusted_turned : (l : Limits) (r : Run) (t : Turn) → So (formed t.0) → Trusted l r → Trusted l (next_run r t)
unfolding next_run now past step
trusted_turned l r t f x = record {
  faithful = faithful_turned l r t f x.faithful;
  recalls = recalls_step (past r) (now r) (good_sound (now r) x.faithful.good) x.recalls (grant (now r).channels) (grant_free (now r) x.faithful.good) t.0 t.1;
}

-- from tables and a history that agree
pub trusted_goes : (l : Limits) (ts : List Turn) (r : Run) → So (all (λ t. formed t.0) ts) → Trusted l r → Trusted l (goes r ts)
trusted_goes l ts r f x = goes_by (Trusted l) (trusted_turned l) ts r f x

-- no place of an empty table is in use
empty_at : (n j : ℕ) → 0 < get_or (replicate n 0) j 0 → ⊥
empty_at zero j l = omega arith
empty_at (suc n) zero l = omega arith
empty_at (suc n) (suc j) l = empty_at n j l

-- from a fresh domain
trusted_fresh : (l : Limits) → So (in_range l) → Trusted l (run (fresh l) (begins nothing_yet))
unfolding now past fresh convened nothing_yet
trusted_fresh l i = record {
  faithful = faithful_fresh l i;
  recalls = record { low = λ c l. refl; rows = λ j l. absurd (empty_at 128 j l) };
}

-- the claims
pub run_hear : (l : Limits) (r : Run) → Trusted l r → Hearing (past r) (now r)
run_hear l r x =
    let s = good_sound (now r) x.faithful.good in
    let at = x.faithful.agrees.homes in
    let hear = marks_hear (past r) (now r) s at x.recalls in
    (hear, managers_same (past r) (now r) s at x.recalls, admitted_same (past r) (now r) s at x.recalls, λ c q p m. hearer_asked (past r) c q (hear c q p m))

-- of every run from a fresh domain
pub heard : WhoHeard
unfolding from_fresh
heard l ts i f = run_hear l (from_fresh l ts) (trusted_goes l ts (run (fresh l) (begins nothing_yet)) f (trusted_fresh l i))

-- ---- data

module _ (data_on : (Message → Option ℕ)) where
  all_right : (h : History) (d : Domain) → ((c q g : ℕ) → So (marked d.channels q c) → convened h c ≡ some g → Hearer h c q)
      → (rs : List Sent) → AllMarked data_on d rs → AllRight data_on h rs
  all_right h d law [] m = tt
  all_right h d law (to q m ∷ rs) x = (go (data_on m) x.0, all_right h d law rs x.1)
    where
      go : (on : Option ℕ) → WentMarked d q on → WentRight h q on
      go none y = tt
      go (some c) y = λ g e. law c q g y e

  -- a run that is trusted, and whose data was right
  abbrev HeardRight : Limits → Run → Type 0
  HeardRight l r = Trusted l r × DataRight data_on (past r)

  right_turned : DataMarked data_on → (l : Limits) (r : Run) (t : Turn) → So (formed t.0) → HeardRight l r → HeardRight l (next_run r t)
  unfolding next_run now past
  right_turned law l r t f x =
      let s = good_sound (now r) x.0.faithful.good in
      let hear = private_hear (past r) (now r) s x.0.faithful.agrees.homes x.0.recalls in
      (trusted_turned l r t f x.0, (all_right (past r) (now r) hear (step (now r) t.0 t.1).sent (law (now r) t.0 t.1 x.0.faithful.good f), x.1))

  -- from any run that is trusted
  pub right_goes : DataMarked data_on → (l : Limits) (ts : List Turn) (r : Run) → So (all (λ t. formed t.0) ts) → HeardRight l r → HeardRight l (goes r ts)
  right_goes law l ts r f x = goes_by (HeardRight l) (right_turned law l) ts r f x

  pub data_right : DataMarked data_on → DataHeard data_on
  unfolding from_fresh past
  data_right law l ts i f = (right_goes law l ts (run (fresh l) (begins nothing_yet)) f (trusted_fresh l i, tt)).1

  -- data goes only to marked connections where every message that the machine sends is no data, or is for a marked one
  unfoldable pub marked_there : Domain → Sent → Bool
  marked_there d (to q m) = elim (data_on m) [ none ↦ true | some c ↦ marked d.channels q c ]

  all_there : (d : Domain) (rs : List Sent) → all (marked_there d) rs ≡ true → AllMarked data_on d rs
  unfolding all marked_there
  all_there d [] e = tt
  all_there d (to q m ∷ rs) e =
      let r = and_parts (marked_there d (to q m)) _ e in
      (go (data_on m) r.0, all_there d rs r.1)
    where
      go : (on : Option ℕ) → elim on as (λ (_ : Option ℕ). Bool) [ none ↦ true | some c ↦ marked d.channels q c ] ≡ true → WentMarked d q on
      go none z = tt
      go (some c) z = z

  pub marked_by : ((d : Domain) → Passes (marked_there d)) → DataMarked data_on
  unfolding step
  marked_by law d e room g f = all_there d (step_with (grant d.channels) d e room).sent (step_all (marked_there d) (law d) (grant d.channels) d e room)
