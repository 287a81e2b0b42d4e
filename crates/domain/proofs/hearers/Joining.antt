-- CJrq, CLrq, CCrq and CDrq: what history hears of channels is what becomes of the table. Assumes nothing.
use Rattle.std.specs.Prelude.{if◌then◌else◌}
use mathlib.Core.Path.{◌≡◌, refl, sym, ◌∙◌}
use mathlib.Core.Bool.{Bool, true, false, ◌&&◌, false≢true}
use mathlib.Core.List.{List, [], ◌∷◌}
use mathlib.Core.Option.{none, some}
use Prim.Native.Nat.{ℕ, zero, suc, ◌≤◌, ◌<◌}
use native.Mathlib.Omega.{arith}
use lib.Dec.{eqb, ltb}
use lib.ListN.{length, get_or}
use borrow.Author.Tests.{eq-eqb, ne_eqb, eqb-true, eqb-false, ltb-false}
use Rattle.cols_spec.specs.Sets.{any, all, member, has, with, without, only, connections, seats}
use Rattle.cols_spec.specs.Places.{Place, At, Nowhere, find}
use Rattle.cols_spec.proofs.Bools.{none≢some, some_is}
use Rattle.cols_spec.proofs.Marks.{has_none, in_with, in_without}
use Rattle.cols_spec.proofs.Rows.{find_holds, find_none}
use Rattle.cols_spec.proofs.Table.{table_set, table_clear}
use Rattle.codec_table.specs.Named.{Message, CJcf, CCcf, CDin, successful, no_such_channel, too_many_channels}
use Rattle.out_records.specs.Records.{Sent, to, tell}
use Rattle.domain.specs.declared.channel.Kind.{Kind}
use Rattle.domain.specs.declared.channel.Kind.TheVariants.{Static, User, Private, Assigned}
use Rattle.domain.specs.declared.channel.Channel.{Channel}
use Rattle.domain.specs.Cells.{no_channel, kind, channel_of, with_marks}
use Rattle.domain.specs.Tables.{Users, Channels, Domain, put_channels, channel, add_channel, set_channel, end_channel, sweep_channels, narrowed, lapses, hosts}
use Rattle.domain.specs.Effects.{Effect, ignored, done, within}
use Rattle.domain.specs.Channels.{may, join_at, join_new, join, joined as has_joined, left, leave_channels, convene, owned, manages, disband}
use Rattle.domain.specs.Events.{channels_full, Event}
use Rattle.domain.specs.History.{Entry, History, ◌▹◌}
use Rattle.domain.specs.Hearers.{Notice, convenes, joins, notice, through, convening, convened, event_opens, joining, told_joined, admitting, admitted}
use Rattle.domain.proofs.invariant.Sound.{Sound}
use Rattle.domain.proofs.invariant.Seats.{kind_of, marks_of}
use Rattle.domain.proofs.invariant.Rooms.{add_table, sweep_table}
use Rattle.domain.proofs.hearers.Notices.{says_nothing, hushed, convened_silent, admitted_silent, joined_silent}
use Rattle.domain.proofs.hearers.Recalls.{Told, Row, Recalls, told_same, Fine, quiet, not_opened, from_fine}
use Rattle.domain.proofs.hearers.Hushed.{say_hushed, tell_hushed}

-- what was true stays true
still_true : (b x : Bool) → x ≡ true → (if b then true else x) ≡ true
still_true true x e = refl
still_true false x e = e

-- a channel with fewer marks is the same channel
pub marked_is : (ch : Channel) (m : ℕ) (new : Channel) → narrowed ch m ≡ some new → new ≡ with_marks ch m
unfolding narrowed
marked_is ch m new e = go (lapses (kind ch) && eqb m 0) e
  where
    go : (b : Bool) → (if b then none else some (with_marks ch m)) ≡ some new → new ≡ with_marks ch m
    go true f = absurd (none≢some f)
    go false f = some_is f

pub kind_marked : (ch : Channel) (m : ℕ) → kind (with_marks ch m) ≡ kind ch
unfolding kind with_marks
kind_marked ch m = refl

marks_marked : (ch : Channel) (m : ℕ) → (with_marks ch m).marks ≡ m
unfolding with_marks
marks_marked ch m = refl

-- ---- an event with one message

abbrev pub one : Event → ℕ → Message → Entry
one ev p m = record { event = ev; reply = 0; sent = to p m ∷ [] }

module _ (h : History) (ev : Event) (still : (q : ℕ) → event_opens ev q ≡ false) (p : ℕ) (m : Message) (x : Notice) (means : notice m ≡ x) where
  pub convened_one : (c : ℕ) → convened (one ev p m ▹ h) c ≡ convening c p x (convened h c)
  unfolding convened through
  convened_one c = rw means

  pub admitted_one : (c u : ℕ) → admitted (one ev p m ▹ h) c u ≡ admitting c u p x (admitted h c u)
  unfolding admitted through
  admitted_one c u = rw means

  pub joined_one : (c q : ℕ) → told_joined (one ev p m ▹ h) c q ≡ joining c q p x (told_joined h c q)
  unfolding told_joined through
  joined_one c q = rw (means, not_opened (one ev p m) still q)

module _ (h : History) (d : Domain) (s : Sound d) (a : Recalls h d.users d.channels) (ev : Event) (still : (q : ℕ) → event_opens ev q ≡ false) where
  abbrev us : Users
  us = d.users

  abbrev cid : ℕ → ℕ
  cid j = get_or d.channels.ids j 0

  abbrev cell : ℕ → Channel
  cell j = get_or d.channels.cells j no_channel

  -- what a request about channels does goes well
  abbrev pub Changes : Effect Channels → Type 0
  Changes x = Fine h ev (within (put_channels d) x)

  -- nothing is heard, and the channels stay
  pub keeps : (rs : List Sent) → all hushed rs ≡ true → Changes (done d.channels rs)
  unfolding within
  keeps rs q = quiet h d a ev (record { reply = 0; domain = d; sent = rs }) (not_opened _ still) q refl refl

  -- one message of which nothing is heard
  pub says : (p : ℕ) (m : Message) → says_nothing (notice m) ≡ true → Changes (done d.channels (to p m ∷ []))
  says p m q = keeps (to p m ∷ []) (say_hushed p m q)

  -- nothing is heard, and channels are fewer or have fewer marks
  module _ (rs : List Sent) (q : all hushed rs ≡ true) where
    abbrev heard : Entry
    heard = record { event = ev; reply = 0; sent = rs }

    pub joined_hushed : (c p : ℕ) → told_joined (heard ▹ h) c p ≡ told_joined h c p
    joined_hushed c p = joined_silent heard h q c p ∙ rw (not_opened heard still p)

    told_less : (c : ℕ) (k : Kind) (m m' : ℕ) → ((q : ℕ) → has m' q ≡ true → has m q ≡ true) → Told h us c k m → Told (heard ▹ h) us c k m'
    told_less c k m m' f x = told_same h (heard ▹ h) us c k m m' (convened_silent heard h q c) (λ u. admitted_silent heard h q c u) (λ n l y. joined_hushed c n ∙ y (f n l)) x

    pub low_hushed : (c : ℕ) → c ≤ 1000 → convened (heard ▹ h) c ≡ none
    low_hushed c l = convened_silent heard h q c ∙ a.low c l

  -- a new channel x, of which the history says what its kind says, where it says the same as before of every other
  made_fine : (x : ℕ) → 0 < x → ((j : ℕ) → cid j ≡ x → ⊥) → channels_full d ≡ false → (k : Kind) (m : ℕ) (g : History)
      → ((y : ℕ) → y ≤ 1000 → convened g y ≡ none)
      → ((y : ℕ) → eqb y x ≡ false → convened g y ≡ convened h y)
      → ((y v : ℕ) → eqb y x ≡ false → admitted g y v ≡ admitted h y v)
      → ((y q : ℕ) → eqb y x ≡ false → told_joined g y q ≡ told_joined h y q)
      → Told g us x k m → Recalls g us (add_channel d.channels x (channel_of k m))
  made_fine x xz away few k m g low f e j t = record {
    low = low;
    rows = (add_table d s x xz away few (channel_of k m) (Row g us) (λ i. rw (kind_of k m, marks_of k m) t)
        (λ i l y. let n : eqb (cid i) x ≡ false = ne_eqb (cid i) x (away i) in
        told_same h g us (cid i) (kind (cell i)) _ _ (f (cid i) n) (λ v. e (cid i) v n) (λ q b r. j (cid i) q n ∙ r b) (a.rows i l))).rows;
  }

  -- ---- CJrq

  module _ (p u c : ℕ) where
    -- the answer to one who has joined c
    abbrev answer : Message
    answer = CJcf successful u c (some c)

    module _ (cz : 0 < c) where
      same_manager : (x : ℕ) → convened (one ev p answer ▹ h) x ≡ convened h x
      unfolding notice convening
      same_manager x = convened_one h ev still p answer (joins c c) refl x ∙ rw (ne_eqb c 0 (λ e. omega arith))

      same_guests : (x v : ℕ) → admitted (one ev p answer ▹ h) x v ≡ admitted h x v
      unfolding notice admitting
      same_guests x v = admitted_one h ev still p answer (joins c c) refl x v

      now_told : (x q : ℕ) → told_joined (one ev p answer ▹ h) x q ≡ (if eqb x c && eqb q p then true else told_joined h x q)
      unfolding notice joining
      now_told x q = joined_one h ev still p answer (joins c c) refl x q

      -- the other channels
      others_told : (x : ℕ) (k : Kind) (m : ℕ) → Told h us x k m → Told (one ev p answer ▹ h) us x k m
      others_told x k m y = told_same h (one ev p answer ▹ h) us x k m m (same_manager x) (same_guests x) (λ q l f. now_told x q ∙ still_true (eqb x c && eqb q p) (told_joined h x q) (f l)) y

      -- the channel itself
      joined_told : (k : Kind) (m : ℕ) → Told h us c k m → Told (one ev p answer ▹ h) us c k (with connections m p)
      joined_told k m y = told_same h (one ev p answer ▹ h) us c k m (with connections m p) (same_manager c) (same_guests c)
          (λ q l f. now_told c q ∙ in_with 16 m q p l (λ b. still_true (eqb c c && eqb q p) (told_joined h c q) (f b)) (λ e. rw (eq-eqb c c refl, eq-eqb q p e))) y

      low_joined : (x : ℕ) → x ≤ 1000 → convened (one ev p answer ▹ h) x ≡ none
      low_joined x l = same_manager x ∙ a.low x l

    -- for a channel in use
    join_at_fine : (j n : ℕ) → find d.channels.ids c ≡ At j → Changes (join_at d.channels p u c j n)
    unfolding join_at channel set_channel within
    join_at_fine j zero e = record {
      low = low_joined cz;
      rows = (table_set s.channels_are (Row _ us) j used (λ i n l y. others_told cz (cid i) (kind (cell i)) (cell i).marks (a.rows i l)) (with_marks (cell j) (with connections (cell j).marks p))
          (rw (r.0, kind_marked (cell j), marks_marked (cell j)) (joined_told cz (kind (cell j)) (cell j).marks (rw r.0 at (a.rows j used))))).rows;
    }
      where
        r : (cid j ≡ c) × (j < length d.channels.ids) × (0 < c)
        r = find_holds d.channels.ids c j e

        cz : 0 < c
        cz = r.2

        used : 0 < cid j
        used = rw r.0 cz
    join_at_fine j (suc n) e = says p _ (unfold notice says_nothing in refl)

    -- for one that is not: static, or assigned with the new id
    module _ (new : ℕ) (lo : 1001 ≤ new) (away : (j : ℕ) → cid j ≡ new → ⊥) where
      abbrev assigned : Message
      assigned = CJcf successful u c (some new)

      -- the id new is no private channel's then
      assigned_fine : c ≡ 0 → channels_full d ≡ false → Changes (done (add_channel d.channels new (channel_of Assigned (only connections p))) (to p assigned ∷ []))
      unfolding within notice convening joining admitting
      assigned_fine z few = made_fine new (omega arith) away few Assigned (only connections p) (one ev p assigned ▹ h)
          (λ y l. conv y ∙ rw (eq-eqb c 0 z, ne_eqb y new (λ e. omega arith)) (a.low y l))
          (λ y n. conv y ∙ rw (eq-eqb c 0 z, n))
          (λ y v n. admitted_one h ev still p assigned (joins c new) refl y v)
          (λ y q n. joined_one h ev still p assigned (joins c new) refl y q ∙ rw n)
          (conv new ∙ rw (eq-eqb c 0 z, eq-eqb new new refl))
        where
          conv : (y : ℕ) → convened (one ev p assigned ▹ h) y ≡ (if eqb c 0 && eqb y new then none else convened h y)
          conv y = convened_one h ev still p assigned (joins c new) refl y

      static_fine : 0 < c → c ≤ 1000 → ((j : ℕ) → cid j ≡ c → ⊥) → channels_full d ≡ false
          → Changes (done (add_channel d.channels c (channel_of Static (only connections p))) (to p answer ∷ []))
      unfolding within
      static_fine cz cl gone few = made_fine c cz gone few Static (only connections p) (one ev p answer ▹ h)
          (low_joined cz) (λ y n. same_manager cz y) (λ y v n. same_guests cz y v) (λ y q n. now_told cz y q ∙ rw n) (low_joined cz c cl)

      join_new_fine : find d.channels.ids c ≡ Nowhere → Changes (join_new new (channels_full d) d.channels p u c)
      unfolding join_new notice says_nothing
      join_new_fine none_c = go (ltb 1000 c) refl (channels_full d) refl (eqb c 0) refl
        where
          go : (b : Bool) → ltb 1000 c ≡ b → (f : Bool) → channels_full d ≡ f → (z : Bool) → eqb c 0 ≡ z
              → Changes (if b then done d.channels (to p (CJcf no_such_channel u c none) ∷ [])
              else if f then done d.channels (to p (CJcf too_many_channels u c none) ∷ [])
              else if z then done (add_channel d.channels new (channel_of Assigned (only connections p))) (to p (CJcf successful u c (some new)) ∷ [])
              else done (add_channel d.channels c (channel_of Static (only connections p))) (to p (CJcf successful u c (some c)) ∷ []))
          go true b f g z i = says p _ refl
          go false b true g z i = says p _ refl
          go false b false g true i = assigned_fine (eqb-true c 0 i) g
          go false b false g false i =
              let cz : c ≡ 0 → ⊥ = eqb-false c 0 i in
              let pos : 0 < c = omega arith in
              static_fine pos (ltb-false 1000 c b) (find_none d.channels.ids c none_c pos) g

      pub join_fine : Changes (join new (channels_full d) us d.channels p u c)
      unfolding join
      join_fine = from_fine h d a ev (put_channels d) p u _ (λ i mine on. go i (find d.channels.ids c) refl)
        where
          go : (i : ℕ) (x : Place) → find d.channels.ids c ≡ x → Changes (elim x as (λ (_ : Place). Effect Channels) [
            | At j ↦ join_at d.channels p u c j (may (kind (channel d.channels j)) c u i)
            | Nowhere ↦ join_new new (channels_full d) d.channels p u c
          ])
          go i (At j) e = join_at_fine j _ e
          go i Nowhere e = join_new_fine e

  -- ---- CCrq

  module _ (p u new : ℕ) (lo : 1001 ≤ new) (away : (j : ℕ) → cid j ≡ new → ⊥) where
    abbrev granted : Message
    granted = CCcf successful u (some new)

    -- its manager is the initiator, and nobody is admitted or joined
    granted_fine : (i : ℕ) → get_or us.ids i 0 ≡ u → channels_full d ≡ false → Changes (done (add_channel d.channels new (channel_of (Private i 0) 0)) (to p granted ∷ []))
    unfolding within notice convening joining admitting
    granted_fine i e few = made_fine new (omega arith) away few (Private i 0) 0 (one ev p granted ▹ h)
        (λ y l. conv y ∙ rw (ne_eqb y new (λ e. omega arith)) (a.low y l))
        (λ y n. conv y ∙ rw n)
        (λ y v n. adm y v ∙ rw n)
        (λ y q n. joined_one h ev still p granted (convenes new u) refl y q ∙ rw n)
        (record {
          chaired = conv new ∙ rw (eq-eqb new new refl, e);
          guests = λ j l. adm new _ ∙ rw (eq-eqb new new refl, has_none j);
          marks = λ q l. absurd (false≢true (sym (has_none q) ∙ l));
        })
      where
        conv : (y : ℕ) → convened (one ev p granted ▹ h) y ≡ (if eqb y new then some u else convened h y)
        conv y = convened_one h ev still p granted (convenes new u) refl y

        adm : (y v : ℕ) → admitted (one ev p granted ▹ h) y v ≡ (if eqb y new then false else admitted h y v)
        adm y v = admitted_one h ev still p granted (convenes new u) refl y v

    pub convene_fine : Changes (convene new (channels_full d) us d.channels p u)
    unfolding convene notice says_nothing
    convene_fine = from_fine h d a ev (put_channels d) p u _ (λ i mine on. go i mine (channels_full d) refl)
      where
        go : (i : ℕ) → find us.ids u ≡ At i → (b : Bool) → channels_full d ≡ b
            → Changes (if b then done d.channels (to p (CCcf too_many_channels u none) ∷ [])
            else done (add_channel d.channels new (channel_of (Private i 0) 0)) (to p (CCcf successful u (some new)) ∷ []))
        go i mine true e = says p _ refl
        go i mine false e = granted_fine i (find_holds us.ids u i mine).0 e

  -- ---- CLrq

  pub leave_channels_fine : (p : ℕ) (cs : List ℕ) → Changes (leave_channels d.channels p cs)
  unfolding leave_channels left within all
  leave_channels_fine p cs = go (any (has_joined d.channels p) cs)
    where
      row : (j c : ℕ) (ch : Channel) → Row h us j c ch → (b : Bool) (new : Channel) → (if b then narrowed ch (without connections ch.marks p) else some ch) ≡ some new
          → Row (record { event = ev; reply = 0; sent = [] } ▹ h) us j c new
      row j c ch r true new e =
          rw (marked_is ch _ new e, kind_marked ch (without connections ch.marks p), marks_marked ch (without connections ch.marks p))
          (told_less [] refl c (kind ch) ch.marks (without connections ch.marks p) (λ q l. (in_without 16 ch.marks q p l).0) r)
      row j c ch r false new e = rw (some_is e) (told_less [] refl c (kind ch) ch.marks ch.marks (λ q l. l) r)

      go : (b : Bool) → Changes (if b then done (sweep_channels (left p cs) d.channels) [] else ignored)
      go true = record {
        low = low_hushed [] refl;
        rows = (sweep_table d.channels s.channels_are (Row _ us) (left p cs) (λ j l y ch e. row j (cid j) (cell j) (a.rows j l) (member (cid j) cs) ch e)).rows;
      }
      go false = tt

  -- ---- a request by the manager of a private channel

  pub manages_fine : (p u c : ℕ) (act : (ℕ → ℕ → ℕ → Effect Channels))
      → ((j m adm : ℕ) → find d.channels.ids c ≡ At j → kind (cell j) ≡ Private m adm → Changes (act j m adm)) → Changes (manages us d.channels p u c act)
  unfolding manages owned channel within
  manages_fine p u c act f = from_fine h d a ev (put_channels d) p u _ (λ i mine on. go i (find d.channels.ids c) refl)
    where
      either : (b : Bool) (x : Effect Channels) → Changes x → Changes (if b then x else ignored)
      either true x g = g
      either false x g = tt

      its : (i j : ℕ) → find d.channels.ids c ≡ At j → (k : Kind) → kind (cell j) ≡ k → Changes (owned k i (act j))
      its i j e Static q = tt
      its i j e User q = tt
      its i j e (Private m adm) q = either (eqb m i) (act j m adm) (f j m adm e q)
      its i j e Assigned q = tt

      go : (i : ℕ) (x : Place) → find d.channels.ids c ≡ x
          → Changes (elim x as (λ (_ : Place). Effect Channels) [ At j ↦ owned (kind (channel d.channels j)) i (act j) | Nowhere ↦ ignored ])
      go i (At j) e = its i j e (kind (cell j)) refl
      go i Nowhere e = tt

  -- CDrq
  pub disband_fine : (p u c : ℕ) → Changes (disband us d.channels p u c)
  unfolding disband end_channel within notice says_nothing
  disband_fine p u c = manages_fine p u c _ (λ j m adm e q.
      let r = find_holds d.channels.ids c j e in
      let rs = tell (hosts us (with seats adm m)) (CDin c) in
      let dull : all hushed rs ≡ true = tell_hushed (hosts us (with seats adm m)) (CDin c) refl in
      record {
        low = low_hushed rs dull;
        rows = (table_clear s.channels_are (Row _ us) j (rw r.0 r.2) (λ i n l y. told_less rs dull (cid i) (kind (cell i)) (cell i).marks (cell i).marks (λ p b. b) (a.rows i l))).rows;
      })
