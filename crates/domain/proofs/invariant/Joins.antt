-- Requests about channels leave the tables sound. Assumes nothing.
use Rattle.std.specs.Prelude.{if◌then◌else◌}
use mathlib.Core.Path.{◌≡◌, refl, sym, ap, ◌∙◌}
use mathlib.Core.Bool.{Bool, true, false, ◌||◌, false≢true}
use mathlib.Core.List.{List, [], ◌∷◌}
use mathlib.Core.Option.{none, some}
use Prim.Native.Nat.{ℕ, zero, suc, ◌≤◌, ◌<◌}
use native.Mathlib.Omega.{arith}
use lib.Dec.{eqb, ltb}
use lib.ListN.{length, get_or}
use borrow.Author.Tests.{eqb-true, eqb-false, ltb-false}
use Rattle.cols_spec.specs.Sets.{any, null, member, has, with, without, minus, union, only, connections, seats}
use Rattle.cols_spec.specs.Places.{Place, At, Nowhere, find}
use Rattle.cols_spec.proofs.Bools.{or_elim, some_is}
use Rattle.cols_spec.proofs.Below.{any_elim}
use Rattle.cols_spec.proofs.Digits.{those_lt}
use Rattle.cols_spec.proofs.Marks.{Marks, with_mono, has_pos, in_those, in_without, with_old, with_new, union_left, only_self, marks_map, marks_none, marks_only, marks_with, marks_union, marks_meet, marks_minus, marks_without}
use Rattle.cols_spec.proofs.Rows.{Apart, find_holds, find_none}
use Rattle.codec_table.specs.Named.{CJcf, CCcf, CAin, CEin, successful, no_such_channel, too_many_channels, not_admitted, other_user_id}
use Rattle.out_records.specs.Records.{to}
use Rattle.domain.specs.declared.channel.Kind.{Kind}
use Rattle.domain.specs.declared.channel.Kind.TheVariants.{Static, User, Private, Assigned}
use Rattle.domain.specs.declared.channel.Channel.{Channel}
use Rattle.domain.specs.Cells.{no_channel, kind, channel_of, with_marks, with_guests}
use Rattle.domain.specs.Tables.{Users, Channels, Domain, channel, put_channels, add_channel, set_channel, sweep_channels, narrowed}
use Rattle.domain.specs.Effects.{Effect, ignored, done, within}
use Rattle.domain.specs.Channels.{may, join_at, join_new, join, joined, left, leave_channels, convene, owned, manages, disband, stands, places, own, attached_of, admitted_of, admit, private_marks, expel}
use Rattle.domain.specs.Events.{channels_full}
use Rattle.domain.proofs.invariant.Sound.{Seated, Host, Owned, Sort, ChannelRow, Sound, Fine}
use Rattle.domain.proofs.invariant.Seats.{kind_of, with_marks_of, seated_low}
use Rattle.domain.proofs.invariant.From.{Sits, from_fine}
use Rattle.domain.proofs.invariant.Rooms.{Open, in_hosts, guests_changed, with_channels, set_sound, end_sound, made_sound, sweep_owned, sweep_table, marked_user, marked_row}

-- ---- joining

module _ (us : Users) (sized : length us.ids ≡ 64) (apart : Apart us.ids) (p u i : ℕ) (w : Sits us p u i) (pl : p < 16) where
  -- p is joined, so somebody is
  one_more : (m : ℕ) → 0 < with connections m p
  one_more m = has_pos (with connections m p) p (with_new 16 m p pl)

  -- a member at place i is on p
  host_here : (who : ℕ) → has who i ≡ true → Host us who p
  host_here who h = record { place = i; in_mask = h; there = w.on }

  -- who may join leaves the rules of the channel's kind
  pub join_sort : (c : ℕ) (k : Kind) (m : ℕ) → Sort us c k m → may k c u i ≡ 0 → Sort us c k (with connections m p)
  unfolding may
  join_sort c Static m x e = (x.0, x.1, one_more m)
  join_sort c User m x e = go (eqb c u) refl e
    where
      go : (b : Bool) → eqb c u ≡ b → (if b then successful else other_user_id) ≡ 0 → Sort us c User (with connections m p)
      go true q f =
          let same : x.2.who ≡ i = apart x.2.who i (rw x.2.named (omega (arith, x.0))) (x.2.named ∙ eqb-true c u q ∙ sym w.is) in
          (x.0, x.1, record { who = x.2.who; named = x.2.named; marks = marks_with 16 m p x.2.marks (rw same w.on) })
      go false q f = absurd (omega arith)
  join_sort c (Private g adm) m x e = go (eqb g i || has adm i) refl e
    where
      low : i < 64
      low = seated_low us sized i w.seated

      go : (b : Bool) → (eqb g i || has adm i) ≡ b → (if b then successful else not_admitted) ≡ 0 → Sort us c (Private g adm) (with connections m p)
      go true q f = (
        x.0,
        x.1,
        record {
          manager = x.2.manager;
          admitted = x.2.admitted;
          marks = marks_with 16 m p x.2.marks
              (or_elim (eqb g i) (has adm i) q (λ e. host_here _ (rw (eqb-true g i e) (with_new 64 adm i low))) (λ h. host_here _ (with_old 64 adm i g low h)));
        },
      )
      go false q f = absurd (omega arith)
  join_sort c Assigned m x e = (x.0, x.1, one_more m)

module _ (new : ℕ) (d : Domain) (s : Sound d) (lo : 1001 ≤ new) (hi : new ≤ 65535) (away : (j : ℕ) → get_or d.channels.ids j 0 ≡ new → ⊥)
    (p : ℕ) (pl : p < 16) (open_p : has d.links p ≡ true) where
  -- CJrq for a channel not in use
  join_new_fine : (u c : ℕ) → find d.channels.ids c ≡ Nowhere → Fine (within (put_channels d) (join_new new (channels_full d) d.channels p u c))
  unfolding join_new within
  join_new_fine u c none_c = go (ltb 1000 c) refl (channels_full d) refl (eqb c 0) refl
    where
      here : Open d.links (only connections p)
      here = marks_only 16 p open_p

      some_one : 0 < only connections p
      some_one = has_pos (only connections p) p (only_self 16 p pl)

      go : (a : Bool) → ltb 1000 c ≡ a → (b : Bool) → channels_full d ≡ b → (z : Bool) → eqb c 0 ≡ z
          → Fine (within (put_channels d) (if a then done d.channels (to p (CJcf no_such_channel u c none) ∷ [])
          else if b then done d.channels (to p (CJcf too_many_channels u c none) ∷ [])
          else if z then done (add_channel d.channels new (channel_of Assigned (only connections p))) (to p (CJcf successful u c (some new)) ∷ [])
          else done (add_channel d.channels c (channel_of Static (only connections p))) (to p (CJcf successful u c (some c)) ∷ [])))
      go true e b f z g = s
      go false e true f z g = s
      go false e false f true g = made_sound d s new (omega arith) away f Assigned (only connections p) here (lo, hi, some_one)
      go false e false f false g =
          let cz : c ≡ 0 → ⊥ = eqb-false c 0 g in
          let pos : 0 < c = omega arith in
          made_sound d s c pos (find_none d.channels.ids c none_c pos) f Static (only connections p) here (pos, ltb-false 1000 c e, some_one)

  -- CJrq for a channel in use
  join_at_fine : (u c i j : ℕ) → Sits d.users p u i → find d.channels.ids c ≡ At j
      → (n : ℕ) → may (kind (channel d.channels j)) c u i ≡ n → Fine (within (put_channels d) (join_at d.channels p u c j n))
  unfolding join_at channel within
  join_at_fine u c i j w e zero f =
      let r = find_holds d.channels.ids c j e in
      let used : 0 < get_or d.channels.ids j 0 = rw r.0 r.2 in
      let row : ChannelRow d.links d.users j (get_or d.channels.ids j 0) (get_or d.channels.cells j no_channel) = s.channels_are.rows j used in
      let k = kind (get_or d.channels.cells j no_channel) in
      let m = (get_or d.channels.cells j no_channel).marks in
      set_sound d s j used _ k (with connections m p) (ap (λ (x : Channel). with_marks x (with connections m p)) row.plain ∙ with_marks_of k m (with connections m p))
      (marks_with 16 m p row.joins open_p)
      (join_sort d.users s.users_are.ids_size s.users_are.apart p u i w pl (get_or d.channels.ids j 0) k m row.sort (rw r.0 f))
      (λ y. y)
  join_at_fine u c i j w e (suc n) f = s

  -- CJrq
  pub join_fine : (u c : ℕ) → Fine (within (put_channels d) (join new (channels_full d) d.users d.channels p u c))
  unfolding join
  join_fine u c = from_fine (put_channels d) d s p u _ (λ i w. go i w (find d.channels.ids c) refl)
    where
      go : (i : ℕ) → Sits d.users p u i → (x : Place) → find d.channels.ids c ≡ x
          → Fine (within (put_channels d) (elim x as (λ (_ : Place). Effect Channels) [
            | At j ↦ join_at d.channels p u c j (may (kind (channel d.channels j)) c u i)
            | Nowhere ↦ join_new new (channels_full d) d.channels p u c
          ]))
      go i w (At j) e = join_at_fine u c i j w e _ refl
      go i w Nowhere e = join_new_fine u c e

  -- CCrq
  pub convene_fine : (u : ℕ) → Fine (within (put_channels d) (convene new (channels_full d) d.users d.channels p u))
  unfolding convene within
  convene_fine u = from_fine (put_channels d) d s p u _ (λ i w. go i w (channels_full d) refl)
    where
      go : (i : ℕ) → Sits d.users p u i → (b : Bool) → channels_full d ≡ b
          → Fine (within (put_channels d) (if b then done d.channels (to p (CCcf too_many_channels u none) ∷ [])
          else done (add_channel d.channels new (channel_of (Private i 0) 0)) (to p (CCcf successful u (some new)) ∷ [])))
      go i w true e = s
      go i w false e = made_sound d s new (omega arith) away e (Private i 0) 0 (marks_none 16) (lo, hi, record { manager = w.seated; admitted = marks_none 64; marks = marks_none 16 })

-- ---- leaving channels

module _ (d : Domain) (s : Sound d) (p : ℕ) where
  -- CLrq
  pub leave_channels_fine : (cs : List ℕ) → Fine (within (put_channels d) (leave_channels d.channels p cs))
  unfolding leave_channels left within
  leave_channels_fine cs = go (any (joined d.channels p) cs)
    where
      Row : ℕ → ℕ → Channel → Type 0
      Row = ChannelRow d.links d.users

      kept : {u : ℕ} → 0 < u → (o : Owned d.channels u) (ch : Channel) → kind ch ≡ User → left p cs u (get_or d.channels.cells o.spot no_channel) ≡ some ch
          → Owned (sweep_channels (left p cs) d.channels) u
      kept uz o ch k e = sweep_owned d.channels s.channels_are Row (left p cs) _ uz o ch e k

      stays_user : (u : ℕ) → 0 < u → (o : Owned d.channels u) → (b : Bool) → member u cs ≡ b → Owned (sweep_channels (left p cs) d.channels) u
      stays_user u uz o true q =
          let ch = get_or d.channels.cells o.spot no_channel in
          let r = marked_user ch (without connections ch.marks p) o.kind_is in
          kept uz o (with_marks ch (without connections ch.marks p)) r.1 (rw q r.0)
      stays_user u uz o false q = kept uz o (get_or d.channels.cells o.spot no_channel) o.kind_is (rw q)

      row : (j c : ℕ) (ch : Channel) → Row j c ch → (b : Bool) (new : Channel)
          → (if b then narrowed ch (without connections ch.marks p) else some ch) ≡ some new → Row j c new
      row j c ch r true new e = marked_row d.links d.users j c ch.marks (without connections ch.marks p)
          (marks_without 16 ch.marks p (λ q h n. r.joins.are q h)) (λ q h. (in_without 16 ch.marks q p h).0) (kind ch) ch r.plain r.sort new e
      row j c ch r false new e = rw (some_is e) r

      go : (b : Bool) → Fine (within (put_channels d) (if b then done (sweep_channels (left p cs) d.channels) [] else ignored))
      go true = with_channels d s (sweep_channels (left p cs) d.channels) (λ u uz o. stays_user u uz o (member u cs) refl)
          (sweep_table d.channels s.channels_are Row (left p cs) (λ j l r ch e. row j (get_or d.channels.ids j 0) (get_or d.channels.cells j no_channel) r (member (get_or d.channels.ids j 0) cs) ch e))
      go false = tt

-- ---- private channels, by their managers

-- the places of listed users are seated
pub places_seated : (us : Users) (ids : List ℕ) → Marks 64 (places us ids) (Seated us)
unfolding places
places_seated us ids = record { fits = those_lt 64 _; are = λ i h. any_elim (λ u. stands i (find us.ids u)) ids (in_those 64 _ i h).1 (λ u. there i u (find us.ids u) refl) }
  where
    there : (i u : ℕ) (w : Place) → find us.ids u ≡ w → stands i w ≡ true → Seated us i
    there i u (At j) e q = let r = find_holds us.ids u j e in rw (← eqb-true j i q, r.0) r.2
    there i u Nowhere e q = absurd (false≢true q)

-- place j has a private channel with manager m and admitted adm
record PrivateAt (d : Domain) (j m adm : ℕ) : Type 0 where
  used : 0 < get_or d.channels.ids j 0
  stored : channel d.channels j ≡ channel_of (Private m adm) (channel d.channels j).marks
  joins : Open d.links (channel d.channels j).marks
  sort : Sort d.users (get_or d.channels.ids j 0) (Private m adm) (channel d.channels j).marks

module _ (d : Domain) (s : Sound d) (p u c : ℕ) where
  -- a request by the manager
  manages_fine : (act : ℕ → ℕ → ℕ → Effect Channels) → ((j m adm : ℕ) → PrivateAt d j m adm → Fine (within (put_channels d) (act j m adm)))
      → Fine (within (put_channels d) (manages d.users d.channels p u c act))
  unfolding manages channel owned within
  manages_fine act f = from_fine (put_channels d) d s p u _ (λ i w. go i (find d.channels.ids c) refl)
    where
      its : (i j : ℕ) → 0 < get_or d.channels.ids j 0 → (k : Kind) → kind (channel d.channels j) ≡ k
          → Sort d.users (get_or d.channels.ids j 0) k (channel d.channels j).marks → Fine (within (put_channels d) (owned k i (act j)))
      its i j h Static e x = tt
      its i j h User e x = tt
      its i j h (Private m adm) e x = mine (eqb m i)
        where
          mine : (b : Bool) → Fine (within (put_channels d) (if b then act j m adm else ignored))
          mine true = f j m adm (record {
            used = h;
            stored = (s.channels_are.rows j h).plain ∙ ap (λ (k : Kind). channel_of k (channel d.channels j).marks) e;
            joins = (s.channels_are.rows j h).joins;
            sort = x;
          })
          mine false = tt
      its i j h Assigned e x = tt

      go : (i : ℕ) (x : Place) → find d.channels.ids c ≡ x
          → Fine (within (put_channels d) (elim x as (λ (_ : Place). Effect Channels) [ At j ↦ owned (kind (channel d.channels j)) i (act j) | Nowhere ↦ ignored ]))
      go i (At j) e =
          let r = find_holds d.channels.ids c j e in
          let h : 0 < get_or d.channels.ids j 0 = rw r.0 r.2 in
          its i j h (kind (channel d.channels j)) refl (s.channels_are.rows j h).sort
      go i Nowhere e = tt

  -- it is no user's channel
  no_user : {j m adm : ℕ} → PrivateAt d j m adm → kind (channel d.channels j) ≡ User → ⊥
  no_user {m} {adm} x f =
      let e : Private m adm ≡ User = sym (kind_of (Private m adm) _) ∙ sym (ap kind x.stored) ∙ f in
      let z : ◌≡◌ {A = ℕ} 0 1 = cc in omega (arith, z)

  -- CDrq
  pub disband_fine : Fine (within (put_channels d) (disband d.users d.channels p u c))
  unfolding disband channel within
  disband_fine = manages_fine _ (λ j m adm x. end_sound d s j x.used (no_user x))

  -- CArq
  pub admit_fine : (ids : List ℕ) → Fine (within (put_channels d) (admit d.users d.channels p u c ids))
  unfolding admit attached_of channel within
  admit_fine ids = manages_fine _ (λ j m adm x. go j m adm x (null (attached_of d.users ids)))
    where
      go : (j m adm : ℕ) → PrivateAt d j m adm → (b : Bool)
          → Fine (within (put_channels d) (if b then ignored else done
          (set_channel d.channels j (with_guests (channel d.channels j) (union seats adm (places d.users (attached_of d.users ids))) (channel d.channels j).marks))
          (own d.users (attached_of d.users ids) (CAin u c))))
      go j m adm x true = tt
      go j m adm x false = set_sound d s j x.used _ (Private m _) _ (guests_changed _ m adm _ x.stored _ _) x.joins (
        x.sort.0,
        x.sort.1,
        record {
          manager = x.sort.2.manager;
          admitted = marks_union 64 adm _ x.sort.2.admitted (places_seated d.users _);
          marks = marks_map 16 x.sort.2.marks (λ q o. record { place = o.place; in_mask = with_mono 64 adm _ m o.place (λ l a. union_left 64 adm o.place _ l a) o.in_mask; there = o.there });
        },
      )
          (λ e. absurd (no_user x e))

  -- CErq
  pub expel_fine : (ids : List ℕ) → Fine (within (put_channels d) (expel d.users d.channels p u c ids))
  unfolding expel channel private_marks within
  expel_fine ids = manages_fine _ (λ j m adm x. go j m adm x (null (admitted_of d.users adm ids)))
    where
      go : (j m adm : ℕ) → PrivateAt d j m adm → (b : Bool)
          → Fine (within (put_channels d) (if b then ignored else done
          (set_channel d.channels j (private_marks d.users (channel d.channels j) m (minus seats adm (places d.users (admitted_of d.users adm ids))) (channel d.channels j).marks))
          (own d.users (admitted_of d.users adm ids) (CEin c))))
      go j m adm x true = tt
      go j m adm x false = set_sound d s j x.used _ (Private m _) _ (guests_changed _ m adm _ x.stored _ _) (marks_meet 16 _ _ (λ q a b. x.joins.are q a)) (
        x.sort.0,
        x.sort.1,
        record {
          manager = x.sort.2.manager;
          admitted = marks_minus 64 adm _ (λ i a b. x.sort.2.admitted.are i a);
          marks = marks_meet 16 _ _ (λ q a b. in_hosts d.users _ q s.users_are.cells_size b);
        },
      )
          (λ e. absurd (no_user x e))
